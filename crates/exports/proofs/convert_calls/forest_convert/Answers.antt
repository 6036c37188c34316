use Rattle.std.proofs.Common.{ap, ◌∙◌}
use Rattle.exports.specs.Codes.{written_code}
use Rattle.exports.proofs.CodeLaws.{decodes}
use Rattle.exports.proofs.ConvertCallLaws.{moved_told}
use Rattle.exports.proofs.convert_calls.forest_convert.Goals as goal

pub returns : goal.returns
returns c =
    let e = c.convert_lent.ensures in
    let code = c.written_code.ensures in
    record { answer = code ∙ ap written_code e.answer; buffer = e.buffer; decoded = decodes _ e.answer code e.small; same = moved_told _ _ _ _ _ code e.same }
