use Rattle.exports.proofs.FileCallLaws.{report_refused, reported_lent}
use Rattle.exports.proofs.file_calls.report_lent.Goals as goal

pub returns-in-Err : goal.returns-in-Err
returns-in-Err c =
    let e = c.put_refusal.ensures in
    let h = report_refused c.args.list.now c.args.file.now c.args.out.now c.in-Err.ensures.answer.0 c.in-Err.ensures.answer.1 e.answer e.buffer e.enough in
    record { answer = h.answer; buffer = h.buffer; small = h.small; demand3 = h.demand3 }

pub returns-in-Ok : goal.returns-in-Ok
returns-in-Ok c =
    let e = c.report.ensures in
    let same = c.in-Ok.ensures.answer.1 in
    let h = reported_lent c.args.list.now c.args.file.now c.args.out.now c.in-Ok.ensures.answer.0 (rw same at e.answer) (rw same at e.buffer) (rw same at e.demand3) (rw same at e.enough) in
    record { answer = h.answer; buffer = h.buffer; small = h.small; demand3 = h.demand3 }
