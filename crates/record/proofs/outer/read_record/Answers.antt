use Rattle.std.proofs.Common.{sym, arith}
use Rattle.std.proofs.lemmas.Result.{err_from_is_err_and}
use Rattle.record.proofs.RoundTrip.{read_answers, read_none, read_refused, read_whole, read_more}
use Rattle.record.proofs.outer.read_record.Goals as goal

pub returns-then-is_empty : goal.returns-then-is_empty
returns-then-is_empty c =
    read_answers _ _ _ (λ i. omega (arith, c.type_inv.file i)) (rw c.into.ensures (read_none _ _ (sym c.if-is_empty.ensures)))

pub returns-in_err-site : goal.returns-in_err-site
returns-in_err-site c =
    let p = err_from_is_err_and c.from_residual.result c.from_residual.ensures.1 in
    read_answers _ _ _ (λ i. omega (arith, c.type_inv.file i)) (rw (p.1, p.2) (read_refused _ _ (sym c.if-is_empty.ensures) _ (sym c.in_err-site.ensures.answer)))

pub returns-then-next-file : goal.returns-then-next-file
returns-then-next-file c =
    read_answers _ _ _ (λ i. omega (arith, c.type_inv.file i)) (read_more _ _ (sym c.if-is_empty.ensures) _ (sym c.in_ok-site.ensures.answer) c.if-next-file.true)

pub returns : goal.returns
returns c =
    read_answers _ _ _ (λ i. omega (arith, c.type_inv.file i)) (read_whole _ _ (sym c.if-is_empty.ensures) _ (sym c.in_ok-site.ensures.answer) c.if-next-file.false)
