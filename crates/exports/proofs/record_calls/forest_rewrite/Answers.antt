use Rattle.exports.proofs.CodeLaws.{decodes}
use Rattle.exports.proofs.record_calls.forest_rewrite.Goals as goal

pub returns-clause-decoded : goal.returns-clause-decoded
returns-clause-decoded c = decodes _ c.rewrite.ensures.answer c.written_code.ensures c.rewrite.ensures.small
