use Rattle.std.proofs.Common.{ap, ◌∙◌}
use Rattle.exports.specs.Codes.{written_code}
use Rattle.exports.proofs.CodeLaws.{decodes}
use Rattle.exports.proofs.SampleCallLaws.{sample_small, by_key, mark_says}
use Rattle.exports.proofs.sample_calls.forest_sample.Goals as goal

pub returns : goal.returns
returns c =
    let b = c.args.site.now in
    let list = c.args.list.now in
    let m = c.args.months.now in
    let old = c.args.out.now in
    let written = rw c.sampled_of.ensures at c.put_numbers.ensures.answer in
    let code = c.written_code.ensures ∙ ap written_code written in
    let held = rw c.sampled_of.ensures at c.put_numbers.ensures.buffer in
    record { answer = code; buffer = held; decoded = decodes _ written c.written_code.ensures (sample_small b list m old written); by_key = by_key b list m old code held; demand3 = mark_says b list m old code held }
