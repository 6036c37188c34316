use Rattle.std.proofs.Common.{sym, le_trans, ◌∙◌, arith, take_all}
use Rattle.std.proofs.lemmas.Result.{err_from_is_err_and}
use Rattle.convert.proofs.ConvertedLaws.{old_short, moved_start, moved_fault, moved_more, moved_end}
use Rattle.std.proofs.lemmas.List.Elements.{All-get_or}
use Rattle.convert.specs.Moved.{Older}
use Rattle.convert.proofs.MovedLaws.{old_moved}
use Rattle.convert.proofs.converting.moved_len.Goals as goal

pub check_convertible-requires-clause-older : goal.check_convertible-requires-clause-older
check_convertible-requires-clause-older c = All-get_or Older c.args.sites.now c.loop-site.site-index _ c.loop-site-test.true c.requires.older

pub loop-site-init : goal.loop-site-init
loop-site-init c = moved_start c.args.target

pub returns-in_err-check_convertible : goal.returns-in_err-check_convertible
returns-in_err-check_convertible c =
    let p = err_from_is_err_and c.from_residual.result c.from_residual.ensures.1 in
    rw (p.1, p.2) (moved_fault c.args.target c.args.sites.now c.loop-site.site-index _ c.loop-site-test.true c.loop-site.invariant (sym c.check_convertible.ensures ∙ c.in_err-check_convertible.was))

pub loop-site-preserved : goal.loop-site-preserved
loop-site-preserved c =
    let n = c.record_len-n.ensures in
    let m = rw c.moved.ensures at c.record_len-len.ensures in
    let old = All-get_or Older c.args.sites.now c.loop-site.site-index _ c.loop-site-test.true c.requires.older in
    moved_more c.args.target c.args.sites.now c.loop-site.site-index _ c.loop-site-test.true c.loop-site.invariant (sym c.check_convertible.ensures ∙ c.in_ok-check_convertible.was) _ _ n.answer m.answer (le_trans n.bounds.1 (old_short _ old)) (le_trans m.bounds.1 (old_short _ (old_moved _ _)))

pub returns : goal.returns
returns c = moved_end c.args.target c.args.sites.now (rw (take_all c.loop-site.site-index c.args.sites.now (omega arith)) at c.loop-site.invariant)
