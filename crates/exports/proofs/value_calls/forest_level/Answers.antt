use Rattle.loads.specs.SiteTerms.{terms_of}
use Rattle.loads.specs.Search.{level_numbers}
use Rattle.exports.specs.Layout.{site_in}
use Rattle.exports.proofs.SiteValueLaws.{promised, few_levels, count_said}
use Rattle.exports.proofs.value_calls.forest_level.Goals as goal

pub returns : goal.returns
returns c =
    let list = c.args.list.now in
    let b = c.args.site.now in
    let put = c.put_numbers.ensures in
    let h = promised list b (level_numbers (terms_of list (site_in b))) c.args.out.now (few_levels list b) c.level_of.ensures put.answer put.buffer c.written_code.ensures in
    record { answer = h.answer; buffer = h.buffer; decoded = h.decoded; count = count_said list b c.args.out.now (few_levels list b) h }
