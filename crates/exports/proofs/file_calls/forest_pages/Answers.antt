use Rattle.std.proofs.Common.{ap, ◌∙◌}
use Rattle.pages.specs.PagesDemand3.{PagesSay}
use Rattle.exports.specs.Codes.{written_code}
use Rattle.exports.proofs.CodeLaws.{decodes}
use Rattle.exports.proofs.FileCallLaws.{told}
use Rattle.exports.proofs.file_calls.forest_pages.Goals as goal

pub returns : goal.returns
returns c =
    let e = c.pages_lent.ensures in
    let code = c.written_code.ensures in
    record { answer = code ∙ ap written_code e.answer; buffer = e.buffer; decoded = decodes _ e.answer code e.small; demand3 = told PagesSay _ _ _ _ code e.demand3 }
