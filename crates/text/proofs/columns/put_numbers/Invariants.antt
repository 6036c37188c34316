-- The first numbers are written.
use Rattle.std.proofs.Common.{take, flat_map}
use Rattle.output.specs.Writing.{Wrote}
use Rattle.text.specs.Line.{column}
use Rattle.text.proofs.columns.put_numbers.Given as goal

abbrev pub invariant-loop-n : goal.invariant-loop-n
invariant-loop-n l = Wrote l.initial.out l.fn.at (flat_map column (take l.n-index l.n-items)) l.out l.at
