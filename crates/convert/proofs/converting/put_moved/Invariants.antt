-- The first records are written.
use Rattle.std.proofs.Common.{take, flat_map}
use Rattle.output.specs.Writing.{Wrote}
use Rattle.convert.specs.Converted.{moved_record}
use Rattle.convert.proofs.converting.put_moved.Given as goal

abbrev pub invariant-loop-site : goal.invariant-loop-site
invariant-loop-site l = Wrote l.initial.out 0 (flat_map (moved_record l.target) (take l.site-index l.sites)) l.out l.end
