use Rattle.std.proofs.Common.{sym}
use Rattle.std.proofs.lemmas.Result.{err_from_is_err_and}
use Rattle.loads.proofs.WithoutBicarbonateLaws.{unlost_refused}
use Rattle.loads.proofs.critical.critical_loads.Goals as goal

pub returns-in_err-checked-clause-unlost : goal.returns-in_err-checked-clause-unlost
returns-in_err-checked-clause-unlost c =
    let p = err_from_is_err_and c.from_residual.result c.from_residual.ensures.1 in
    λ none. rw (p.1, p.2) (sym (unlost_refused _ _ none _ c.in_err-checked.ensures))
