use Rattle.std.proofs.Common.{arith}
use Rattle.output.proofs.WritingLaws.{nothing}
use Rattle.output.proofs.EachLaws.{next_fits, next_written}
use Rattle.convert.specs.Converted.{moved_record}
use Rattle.convert.proofs.converting.put_moved.Goals as goal

pub loop-site-init : goal.loop-site-init
loop-site-init c = nothing _ 0

pub loop-site-preserved : goal.loop-site-preserved
loop-site-preserved c =
    let k = c.args.target in
    let ss = c.args.sites.now in
    let w = c.loop-site.invariant in
    let room = next_fits (moved_record k) ss c.loop-site.site-index _ c.loop-site-test.true w (omega arith) in
    next_written (moved_record k) ss c.loop-site.site-index _ c.loop-site-test.true w ((rw c.moved.ensures at c.put_record-end.ensures).fits room)
