use Rattle.std.proofs.Common.{Ok, ap, ◌∙◌}
use Rattle.std.proofs.lemmas.Result.{err_from_is_err_and}
use Rattle.record.proofs.UnreadLaws.{step_lost, step_found}
use Rattle.record.proofs.records.Records.next_site.Goals as goal

pub returns-in_err-check_load-clause-steps : goal.returns-in_err-check_load-clause-steps
returns-in_err-check_load-clause-steps c =
    let p = err_from_is_err_and c.from_residual-in_err-check_load.result c.from_residual-in_err-check_load.ensures.1 in
    let e = c.peek.ensures.found _ (c.in_ok-found.was ∙ ap Ok c.in-Some.is) in
    let l = rw e.3 at c.in_err-check_load.ensures.0 in
    rw (p.1, p.2) (step_lost _ _ _ _ _ e.0 e.1 e.2 l c.in_err-check_load.ensures.1)

pub returns-clause-steps : goal.returns-clause-steps
returns-clause-steps c =
    let e = c.peek.ensures.found _ (c.in_ok-found.was ∙ ap Ok c.in-Some.is) in
    let l = rw e.3 at c.in_ok-check_load.ensures in
    rw c.go_on.ensures ((step_found _ _ _ _ _ e.0 e.1 e.2 l))
