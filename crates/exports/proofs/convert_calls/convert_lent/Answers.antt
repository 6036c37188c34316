use Rattle.std.proofs.Common.{◌≡◌, Err, sym, arith, rules}
use Rattle.std.proofs.lemmas.Result.{err_from_is_err_and}
use Rattle.exports.proofs.ConvertCallLaws.{target_refused, bad_list, file_converted}
use Rattle.exports.proofs.convert_calls.convert_lent.Goals as goal

pub returns-in_err-target : goal.returns-in_err-target
returns-in_err-target c =
    let said : c.from_residual.result ≡ Err (record { rule = c.in_err-target.field-0.0; at = 0 }) = search rules in
    let h = target_refused c.args.target c.args.list.now c.args.file.now c.args.out.now (sym c.in_err-target.ensures) in
    rw said (record { answer = h.answer; buffer = h.buffer; small = h.small; same = tt })

pub returns-in_err-list : goal.returns-in_err-list
returns-in_err-list c =
    let p = err_from_is_err_and c.from_residual-in_err-list.result c.from_residual-in_err-list.ensures.1 in
    let bad = c.in_err-list.ensures.answer in
    let h = bad_list c.args.target c.args.list.now c.args.file.now c.args.out.now c.in_ok-target.target (sym c.in_ok-target.ensures) bad.0 bad.1 in
    rw (p.1, p.2) (record { answer = h.answer; buffer = h.buffer; small = h.small; same = tt })

pub returns : goal.returns
returns c =
    let e = c.convert.ensures in
    let good = c.in_ok-list.ensures.answer in
    let h = file_converted c.args.target c.args.list.now c.args.file.now c.args.out.now c.in_ok-target.target (sym c.in_ok-target.ensures) (λ i. omega (arith, c.type_inv.file i)) good.0
    (rw good.1 at e.answer) (rw good.1 at e.buffer) (rw good.1 at e.enough) (rw good.1 at e.same) in
    record { answer = h.answer; buffer = h.buffer; small = h.small; same = h.same }
