use Rattle.std.proofs.Common.{arith}
use Rattle.std.proofs.lemmas.Result.{err_from_is_err_and}
use Rattle.convert.proofs.ConvertLaws.{old_sites, convert_fault, convert_inconvertible, convert_short, convert_done}
use Rattle.convert.proofs.converting.convert.Goals as goal

pub returns-in_err-sites : goal.returns-in_err-sites
returns-in_err-sites c =
    let p = err_from_is_err_and c.from_residual.result c.from_residual.ensures.1 in
    let h = convert_fault c.args.list.bytes.now c.args.file.now c.args.out.now c.args.target c.in_err-sites.ensures.answer in
    rw (p.1, p.2) (record { answer = h.0.answer; buffer = h.0.buffer; numbers = h.0.numbers; enough = h.0.enough; same = tt })

pub returns-in_err-len : goal.returns-in_err-len
returns-in_err-len c =
    let p = err_from_is_err_and c.from_residual-in_err-len.result c.from_residual-in_err-len.ensures.1 in
    let h = convert_inconvertible c.args.list.bytes.now c.args.file.now c.args.out.now c.args.target _ c.in_ok-sites.ensures.answer (rw c.deref.ensures.0 at c.in_err-len.ensures) in
    rw (p.1, p.2) (record { answer = h.0.answer; buffer = h.0.buffer; numbers = h.0.numbers; enough = h.0.enough; same = tt })

pub returns-then-out-len : goal.returns-then-out-len
returns-then-out-len c =
    let all = rw c.deref.ensures.0 at c.in_ok-len.ensures in
    let h = convert_short c.args.list.bytes.now c.args.file.now c.args.out.now c.args.target _ c.in_ok-sites.ensures.answer (λ i. omega (arith, c.type_inv.file i)) all (omega (arith, c.if-out-len.true)) in
    rw c.into.ensures (record { answer = h.0.answer; buffer = h.0.buffer; numbers = h.0.numbers; enough = h.0.enough; same = tt })

pub returns : goal.returns
returns c =
    let all = rw c.deref.ensures.0 at c.in_ok-len.ensures in
    let w = rw c.deref-2.ensures.0 at c.put_moved.ensures in
    let h = convert_done c.args.list.bytes.now c.args.file.now c.args.out.now c.args.target _ c.in_ok-sites.ensures.answer (λ i. omega (arith, c.type_inv.file i)) all (omega (arith, c.if-out-len.false)) w in
    record { answer = h.0.answer; buffer = h.0.buffer; numbers = h.0.numbers; enough = h.0.enough; same = h.1 }

pub moved_len-requires-clause-older : goal.moved_len-requires-clause-older
moved_len-requires-clause-older c = rw c.deref.ensures.0 (old_sites c.args.list.bytes.now c.args.file.now c.args.out.now c.args.target _ c.in_ok-sites.ensures.answer)
