use Rattle.std.proofs.Common.{Ok, sym, ap, ◌∙◌}
use Rattle.std.proofs.lemmas.Result.{err_from_is_err_and}
use Rattle.record.specs.Result.{result_numbers}
use Rattle.record.proofs.UnreadLaws.{so_start, so_more, so_end, so_fault, made_same}
use Rattle.record.proofs.records.read_sites.Goals as goal

pub returns-in_err-records : goal.returns-in_err-records
unfolding result_numbers
returns-in_err-records c =
    let p = err_from_is_err_and c.from_residual.result c.from_residual.ensures.1 in
    rw (p.1, p.2) (record { answer = c.in_err-records.ensures.answer; numbers = rw c.in_err-records.ensures.answer })

pub loop-site-init : goal.loop-site-init
loop-site-init c = rw c.new-sites.ensures (so_start (λ s. s) c.in_ok-records.ensures.answer c.in_ok-records.ensures.start.0)

pub returns-in_err-site : goal.returns-in_err-site
unfolding result_numbers
returns-in_err-site c =
    let p = err_from_is_err_and c.from_residual-in_err-site.result c.from_residual-in_err-site.ensures.1 in
    let e = so_fault (λ s. s) c.loop-site.invariant c.next_site.result _ c.next_site.ensures.steps.walk c.in_err-site.was in
    rw (p.1, p.2) (record { answer = e; numbers = rw e })

pub loop-site-preserved : goal.loop-site-preserved
loop-site-preserved c =
    let s = c.next_site.ensures.steps in
    let same = c.next_site.ensures.file in
    rw (c.push.ensures.items, same.0, same.1, same.2) (so_more (λ s. s) c.loop-site.invariant c.next_site.result _ s.walk (c.in_ok-site.was ∙ ap Ok c.in-Some.is) _ s.fewer)

pub returns : goal.returns
unfolding result_numbers
returns c =
    let e = sym (made_same _) ∙ so_end (λ s. s) c.loop-site.invariant c.next_site.result _ c.next_site.ensures.steps.walk (c.in_ok-site.was ∙ ap Ok c.in_default.is) in
    record { answer = e; numbers = rw e }
