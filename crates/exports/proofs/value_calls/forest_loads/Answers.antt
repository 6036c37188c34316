use Rattle.exports.specs.Layout.{site_in, site_load_numbers}
use Rattle.exports.proofs.SiteValueLaws.{promised, few_loads}
use Rattle.exports.proofs.value_calls.forest_loads.Goals as goal

pub returns : goal.returns
returns c =
    let list = c.args.list.now in
    let b = c.args.site.now in
    let put = c.put_numbers.ensures in
    let h = promised list b (site_load_numbers list (site_in b)) c.args.out.now (few_loads list b) c.loads_of.ensures put.answer put.buffer c.written_code.ensures in
    record { answer = h.answer; buffer = h.buffer; decoded = h.decoded }
