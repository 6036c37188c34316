use Rattle.std.proofs.Common.{rules, tests, ◌∙◌, ap}
use Rattle.std.proofs.lemmas.Iterator.{YieldsList-from_slice}
use Rattle.std.proofs.lemmas.Iterator.Search.{all_from_yields_List}
use Rattle.site.specs.Values.{name_byte, ranged}
use Rattle.site.proofs.Name.check.Goals as goal

pub returns : goal.returns
returns c =
    let all = all_from_yields_List name_byte _ _ c.all.result c.all.ensures.ran (YieldsList-from_slice _ cc) (λ x b q k. search (rules, tests)) in
    c.ranged.ensures ∙ ap ranged all
