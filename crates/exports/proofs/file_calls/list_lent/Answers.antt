use Rattle.std.proofs.Common.{arith}
use Rattle.std.proofs.lemmas.Result.{err_from_is_err_and}
use Rattle.text.specs.TextLengths.{most_text}
use Rattle.listing.specs.Reports.{listing_of}
use Rattle.listing.specs.PrintedDemand3.{LinesSay}
use Rattle.exports.proofs.FileCallLaws.{says_refused, says_filed}
use Rattle.exports.proofs.file_calls.list_lent.Goals as goal

pub returns-in_err-checked : goal.returns-in_err-checked
returns-in_err-checked c =
    let list = c.args.list.now in
    let p = err_from_is_err_and c.from_residual.result c.from_residual.ensures.1 in
    let h = says_refused most_text (listing_of list) LinesSay list c.args.file.now c.args.out.now c.in_err-checked.ensures.answer.0 c.in_err-checked.ensures.answer.1 in
    rw (p.1, p.2) (record { answer = h.filed.answer; buffer = h.filed.buffer; small = h.filed.small; demand3 = h.demand3 })

pub returns : goal.returns
returns c =
    let list = c.args.list.now in
    let e = c.list.ensures in
    let same = c.in_ok-checked.ensures.answer.1 in
    let h = says_filed most_text (listing_of list) LinesSay list c.args.file.now c.args.out.now c.in_ok-checked.ensures.answer.0 (omega arith) (rw same at e.answer) (rw same at e.buffer) (rw same at e.demand3) (rw same at e.enough) in
    record { answer = h.filed.answer; buffer = h.filed.buffer; small = h.filed.small; demand3 = h.demand3 }
