-- The first lines are written.
use Rattle.std.proofs.Common.{take, flat_map}
use Rattle.output.specs.Writing.{Wrote}
use Rattle.text.specs.Line.{line}
use Rattle.text.proofs.listing.put_lines.Given as goal

abbrev pub invariant-loop-row : goal.invariant-loop-row
invariant-loop-row l = Wrote l.initial.out l.fn.at (flat_map line (take l.row-index l.rows)) l.out l.at
