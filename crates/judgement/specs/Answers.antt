-- What the call answers for a site with the list that is lent: its loads and the verdict on its own pair, or the rule that it breaks.
use Rattle.std.specs.Prelude.{ℕ, ◌&&◌, List, ◌∷◌, ◌++◌, eqb, Result, Ok, Err}
use Rattle.site.specs.Choice.{pick}
use Rattle.site.specs.declared.Site.{Site}
use Rattle.site.specs.declared.Rule.{Rule}
use Rattle.site.specs.Refusal.{refusal_values, and_then}
use Rattle.loads.specs.Check.{site_rule}
use Rattle.loads.specs.Terms.{Terms}
use Rattle.loads.specs.SiteTerms.{terms_of}
use Rattle.loads.specs.MaxS.{cl_max_s}
use Rattle.loads.specs.CriticalLoads.{cl_min_n, cl_max_n, cl_nut_n, loads_of, load_numbers}
use Rattle.judgement.specs.declared.Judged.{Judged}
use Rattle.judgement.specs.Regions.{region_number}
use Rattle.judgement.specs.Verdicts.{region, acid_exceedance, nutrient_exceedance, verdict, verdict_numbers, verdict_word, within, over}

-- the judgement of the site's own pair, with the list
unfoldable pub judged_of : List ℕ → Site → Judged
judged_of list s = record { loads = loads_of (terms_of list s); verdict = verdict (terms_of list s) s.sulphur s.nitrogen }

unfoldable pub judgement_answer : List ℕ → Site → Result Judged Rule
judgement_answer list s = and_then (site_rule list s) (Ok (judged_of list s))

-- the values of each case: the loads, region and exceedances, and the word's bytes; or the refusal's number and offset
unfoldable pub judged_values : Judged → List ℕ
judged_values j =
    load_numbers j.loads ++ verdict_numbers j.verdict ++ verdict_word j.verdict

unfoldable pub judgement_values : Result Judged Rule → List ℕ
judgement_values (Ok j) = judged_values j
judgement_values (Err r) = refusal_values r

-- what these values are for a pair: the four loads, its region and both exceedances, and the word, where within needs region 0 and
-- nutrient exceedance 0
unfoldable pub pair_values : Terms → (S N : ℕ) → List ℕ
pair_values t S N =
    let word = pick (eqb (region_number (region t S N)) 0 && eqb (nutrient_exceedance t N) 0) within over in
    cl_max_s t ∷ cl_min_n t ∷ cl_max_n t ∷ cl_nut_n t ∷ region_number (region t S N) ∷ acid_exceedance t S N ∷ nutrient_exceedance t N ∷ word
