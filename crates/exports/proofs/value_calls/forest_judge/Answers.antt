use Rattle.exports.specs.Layout.{site_in, judgement_numbers}
use Rattle.exports.proofs.SiteValueLaws.{promised, few_judged, mark_said}
use Rattle.exports.proofs.value_calls.forest_judge.Goals as goal

pub returns : goal.returns
returns c =
    let list = c.args.list.now in
    let b = c.args.site.now in
    let put = c.put_numbers.ensures in
    let h = promised list b (judgement_numbers list (site_in b)) c.args.out.now (few_judged list b) c.judgement_of.ensures put.answer put.buffer c.written_code.ensures in
    record { answer = h.answer; buffer = h.buffer; decoded = h.decoded; demand3 = mark_said list b c.args.out.now (few_judged list b) h }
