-- The first sites convert.
use Rattle.std.proofs.Common.{take}
use Rattle.convert.proofs.ConvertedLaws.{MovedSoFar}
use Rattle.convert.proofs.converting.moved_len.Given as goal

abbrev pub invariant-loop-site : goal.invariant-loop-site
invariant-loop-site l = MovedSoFar l.target (take l.site-index l.sites) l.at l.len
