use Rattle.std.proofs.Common.{sym, ap, ◌∙◌, rules}
use Rattle.loads.specs.Search.{level_values}
use Rattle.level.proofs.SiteLevelLaws.{by_limit, by_refusal, site_level_values, few_found}
use Rattle.level.proofs.at_site.level_at.Goals as goal

pub returns-in_err-limit-clause-answer : goal.returns-in_err-limit-clause-answer
returns-in_err-limit-clause-answer c = rw (by_refusal c.args.list.bytes.now c.args.site _ (sym c.in_err-limit.ensures.answer)) (search rules)

pub returns-clause-values : goal.returns-clause-values
returns-clause-values c =
    let list = c.args.list.bytes.now in
    let s = c.args.site in
    ap level_values (c.greatest_level.ensures.answer ∙ by_limit list s _ (sym c.in_ok-limit.ensures.answer)) ∙ site_level_values list s

pub returns-clause-count : goal.returns-clause-count
returns-clause-count c f e =
    let list = c.args.list.bytes.now in
    let s = c.args.site in
    few_found list s f (sym (c.greatest_level.ensures.answer ∙ by_limit list s _ (sym c.in_ok-limit.ensures.answer)) ∙ e)
