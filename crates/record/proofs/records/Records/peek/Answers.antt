use Rattle.std.proofs.Common.{arith}
use Rattle.std.proofs.lemmas.Result.{err_from_is_err_and}
use Rattle.record.proofs.UnreadLaws.{step_end, step_full, step_refused}
use Rattle.record.proofs.records.Records.peek.Goals as goal

pub returns-then-self-clause-none : goal.returns-then-self-clause-none
returns-then-self-clause-none c = λ e. step_end _ _ _ _ _ (omega (arith, c.if-self.true))

pub returns-then-self-eq0-clause-refused : goal.returns-then-self-eq0-clause-refused
returns-then-self-eq0-clause-refused c = step_full _ _ _ _ _ (omega (arith, c.if-self.false)) (omega (arith, c.if-self-eq0.true))

pub returns-in_err-found-clause-refused : goal.returns-in_err-found-clause-refused
returns-in_err-found-clause-refused c =
    let p = err_from_is_err_and c.from_residual.result c.from_residual.ensures.1 in
    rw (p.1, p.2) (step_refused _ _ _ _ _ (omega (arith, c.if-self.false)) (omega (arith, c.if-self-eq0.false)) c.in_err-found.ensures)
