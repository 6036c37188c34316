use Rattle.std.proofs.Common.{sym, ◌∙◌}
use Rattle.std.proofs.lemmas.Result.{err_from_is_err_and}
use Rattle.exports.proofs.LentLaws.{lent_good, lent_bad}
use Rattle.exports.proofs.RewriteLaws.{not_read, rewritten}
use Rattle.exports.proofs.record_calls.rewrite.Goals as goal

pub returns-in_err-list : goal.returns-in_err-list
returns-in_err-list c =
    let p = err_from_is_err_and c.from_residual.result c.from_residual.ensures.1 in
    let h = not_read c.args.list.now c.args.input.now c.args.out.now (lent_bad c.args.list.now _ c.in_err-list.ensures.answer.0 c.in_err-list.ensures.answer.1) in
    rw (p.1, p.2) (record { answer = h.answer; buffer = h.buffer; small = h.small })

pub returns-in_err-read_record : goal.returns-in_err-read_record
returns-in_err-read_record c =
    let list = c.args.list.now in
    let r = c.from_residual-in_err-read_record in
    let p = err_from_is_err_and r.result r.ensures.1 in
    let refused = rw c.in_ok-list.ensures.answer.1 at (sym c.read_record.ensures.answer ∙ c.in_err-read_record.was) in
    let h = not_read list c.args.input.now c.args.out.now (lent_good list _ c.in_ok-list.ensures.answer.0 ∙ refused) in
    rw (p.1, p.2) (record { answer = h.answer; buffer = h.buffer; small = h.small })

pub returns : goal.returns
returns c =
    let w = c.write_record.ensures in
    let same = c.in_ok-list.ensures.answer.1 in
    let read = rw same at (sym c.read_record.ensures.answer ∙ c.in_ok-read_record.was) in
    let again = rw same at c.in_ok-read_record.ensures.written_again in
    let h = rewritten c.args.list.now c.args.input.now c.args.out.now c.in_ok-list.ensures.answer.0 read again (rw same at w.answer) (rw same at w.buffer) in
    record { answer = h.answer; buffer = h.buffer; small = h.small }
