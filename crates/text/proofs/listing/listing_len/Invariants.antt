-- n is the length of the header and the first lines, while that is a usize.
use Rattle.std.proofs.Common.{◌≡◌, ◌+◌, ◌-◌, ◌*◌, ◌^◌, ◌≤◌, min, length, take, sum_by}
use Rattle.text.specs.TextLengths.{header_length, most_line}
use Rattle.text.specs.Line.{line}
use Rattle.text.proofs.listing.listing_len.Given as goal

abbrev pub invariant-loop-row : goal.invariant-loop-row
invariant-loop-row l =
    let lines = sum_by (λ r. length (line r)) (take l.row-index l.rows) in
    (l.n ≡ min (header_length + lines) (2 ^ 64 - 1)) × (lines ≤ most_line * l.row-index)
