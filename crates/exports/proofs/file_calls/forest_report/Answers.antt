use Rattle.std.proofs.Common.{ap, ◌∙◌}
use Rattle.listing.specs.PrintedDemand3.{LinesSay}
use Rattle.exports.specs.Codes.{written_code}
use Rattle.exports.proofs.CodeLaws.{decodes}
use Rattle.exports.proofs.FileCallLaws.{told}
use Rattle.exports.proofs.file_calls.forest_report.Goals as goal

pub returns : goal.returns
returns c =
    let e = c.report_lent.ensures in
    let code = c.written_code.ensures in
    record { answer = code ∙ ap written_code e.answer; buffer = e.buffer; decoded = decodes _ e.answer code e.small; demand3 = told LinesSay _ _ _ _ code e.demand3 }
