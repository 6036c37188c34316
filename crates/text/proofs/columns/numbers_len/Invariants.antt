-- len is the length of the first numbers with their spaces.
use Rattle.std.proofs.Common.{◌≡◌, ◌*◌, ◌≤◌, length, take, sum_by}
use Rattle.text.specs.Line.{column}
use Rattle.text.proofs.columns.numbers_len.Given as goal

abbrev pub invariant-loop-n : goal.invariant-loop-n
invariant-loop-n l = (l.len ≡ sum_by (λ n. length (column n)) (take l.n-index l.n-items)) × (l.len ≤ 21 * l.n-index)
