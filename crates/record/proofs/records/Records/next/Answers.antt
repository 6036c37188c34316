use Rattle.std.proofs.Common.{Ok, ap, ◌∙◌}
use Rattle.std.proofs.lemmas.Result.{err_from_is_err_and}
use Rattle.record.specs.Unread.{site_of}
use Rattle.record.proofs.UnreadLaws.{step_lost, step_found}
use Rattle.record.proofs.records.Records.next.Goals as goal

pub returns-in_err-found-clause-steps : goal.returns-in_err-found-clause-steps
unfolding site_of
returns-in_err-found-clause-steps c =
    let p = err_from_is_err_and c.from_residual.result c.from_residual.ensures.1 in
    rw (p.1, p.2) c.in_err-found.ensures.refused

pub returns-in_default-clause-steps : goal.returns-in_default-clause-steps
unfolding site_of
returns-in_default-clause-steps c = c.peek.ensures.none (c.in_ok-found.was ∙ ap Ok c.in_default.is)

pub returns-in_err-passed-clause-steps : goal.returns-in_err-passed-clause-steps
unfolding site_of
returns-in_err-passed-clause-steps c =
    let p = err_from_is_err_and c.from_residual-in_err-passed.result c.from_residual-in_err-passed.ensures.1 in
    let e = c.peek.ensures.found _ (c.in_ok-found.was ∙ ap Ok c.in-Some.is) in
    let l = rw e.3 at c.in_err-passed.ensures.0 in
    rw (p.1, p.2) (step_lost _ _ _ _ _ e.0 e.1 e.2 l c.in_err-passed.ensures.1)

pub returns-clause-steps : goal.returns-clause-steps
unfolding site_of
returns-clause-steps c =
    let e = c.peek.ensures.found _ (c.in_ok-found.was ∙ ap Ok c.in-Some.is) in
    let l = rw e.3 at c.in_ok-passed.ensures.0 in
    rw c.go_on.ensures (rw c.in_ok-passed.ensures.1 (step_found _ _ _ _ _ e.0 e.1 e.2 l))
