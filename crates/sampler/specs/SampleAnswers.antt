-- What the call answers: the site's checks come first, and the pair of the year is judged as when entered by key.
use Rattle.std.specs.Prelude.{ℕ, ◌≡◌, List, [], ◌∷◌, Result, Ok, Err}
use Rattle.loads.specs.Check.{site_rule}
use Rattle.site.specs.Refusal.{rule_number, unless}
use Rattle.site.specs.declared.Site.{Site}
use Rattle.site.specs.declared.Refusal.{Refusal}
use Rattle.loads.specs.Terms.{Terms}
use Rattle.judgement.specs.Answers.{judgement_answer, judged_values, pair_values}
use Rattle.judgement.specs.declared.Judged.{Judged}
use Rattle.site.specs.declared.Rule.{Rule}
use Rattle.sampler.specs.YearPair.{year_of}
use Rattle.sampler.specs.declared.Month.{Month}
use Rattle.sampler.specs.declared.Pair.{Pair}
use Rattle.sampler.specs.declared.Sampled.{Sampled}

-- the site with the pair put into its field 0F
unfoldable pub with_pair : Site → Pair → Site
with_pair s p = record s { sulphur = p.sulphur; nitrogen = p.nitrogen }

-- what the judgement answers, with the pair that was judged
unfoldable pub keyed : Pair → Result Judged Rule → Result Sampled Refusal
keyed p (Ok j) = Ok (record { pair = p; judged = j })
keyed p (Err rule) = Err (record { rule = rule; at = 0 })

-- the year's pair as when entered by key, or the year's refusal
unfoldable pub year_answer : List ℕ → Site → Result Pair Refusal → Result Sampled Refusal
year_answer list s (Ok p) = keyed p (judgement_answer list (with_pair s p))
year_answer list s (Err refusal) = Err refusal

unfoldable pub sample_answer : List ℕ → Site → List Month → Result Sampled Refusal
sample_answer list s ms = unless (site_rule list s) 0 (year_answer list s (year_of ms))

-- what is given: the pair of the months, and the judgement of the same site with this pair put into its field 0F
pub record ByKey (list : List ℕ) (s : Site) (ms : List Month) (p : Sampled) : Type 0 where
  pub pair : year_of ms ≡ Ok p.pair
  pub judgement : judgement_answer list (with_pair s p.pair) ≡ Ok p.judged

-- the values of each case: the pair, and the judgement's values; or the refusal's number and offset
unfoldable pub sample_values : Result Sampled Refusal → List ℕ
sample_values (Ok p) = p.pair.sulphur ∷ p.pair.nitrogen ∷ judged_values p.judged
sample_values (Err r) = rule_number r.rule ∷ r.at ∷ []

-- what these values are for a year, on the terms of a site that passes
unfoldable pub year_values : Terms → Result Pair Refusal → List ℕ
year_values t (Ok p) = p.sulphur ∷ p.nitrogen ∷ pair_values t p.sulphur p.nitrogen
year_values t (Err r) = rule_number r.rule ∷ r.at ∷ []
