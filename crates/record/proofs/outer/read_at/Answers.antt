use Rattle.std.proofs.Common.{arith}
use Rattle.std.proofs.lemmas.Result.{err_from_is_err_and}
use Rattle.record.proofs.OuterLaws.{record_refused, record_lost, record_whole}
use Rattle.record.proofs.FoundLaws.{found_answers}
use Rattle.record.proofs.outer.read_at.Goals as goal

pub returns-in_err-found : goal.returns-in_err-found
returns-in_err-found c =
    let p = err_from_is_err_and c.from_residual.result c.from_residual.ensures.1 in
    found_answers _ _ _ _ (λ i. omega (arith, c.type_inv.file i)) (rw (p.1, p.2) (record_refused _ _ _ c.in_err-found.ensures))

pub returns-in_err-check_load : goal.returns-in_err-check_load
returns-in_err-check_load c =
    let p = err_from_is_err_and c.from_residual-in_err-check_load.result c.from_residual-in_err-check_load.ensures.1 in
    let l = rw c.in_ok-found.ensures.1 at c.in_err-check_load.ensures.0 in
    found_answers _ _ _ _ (λ i. omega (arith, c.type_inv.file i)) (rw (p.1, p.2) (record_lost _ _ _ c.in_ok-found.ensures.0 _ l c.in_err-check_load.ensures.1))

pub returns : goal.returns
returns c =
    let l = rw c.in_ok-found.ensures.1 at c.in_ok-check_load.ensures in
    found_answers _ _ _ _ (λ i. omega (arith, c.type_inv.file i)) (record_whole _ _ _ c.in_ok-found.ensures.0 l)
