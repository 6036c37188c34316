use Rattle.exports.proofs.CodeLaws.{decodes}
use Rattle.exports.proofs.SiteValueLaws.{check_small}
use Rattle.exports.proofs.value_calls.forest_check.Goals as goal

pub returns-clause-decoded : goal.returns-clause-decoded
returns-clause-decoded c = decodes _ c.check_value.ensures c.written_code.ensures (check_small c.args.list.now c.args.site.now c.check_value.ensures)
