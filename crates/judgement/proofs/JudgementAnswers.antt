-- What an answer of the judgement says of its site.
use Rattle.std.proofs.Common.{ℕ, List, ◌-◌, ◌≡◌, refl, ◌&&◌, arith, [], ◌∷◌, eqb, Ok, Err}
use Rattle.std.proofs.lemmas.Bool.Decides.{nat_tests}
use Rattle.site.specs.Choice.{pick}
use Rattle.loads.specs.Check.{site_rule}
use Rattle.site.specs.declared.Site.{Site}
use Rattle.site.specs.declared.Rule.{Rule}
use Rattle.std.specs.Prelude.{Ok, Err}
use Rattle.site.specs.Check.{due_rule}
use Rattle.site.specs.Refusal.{and_then}
use Rattle.site.proofs.ByCheckLaws.{given_by_lem, refused_by}
use Rattle.loads.specs.SiteTerms.{terms_of}
use Rattle.loads.specs.Terms.{Terms}
use Rattle.loads.specs.CriticalLoads.{loads_of, load_numbers}
use Rattle.judgement.specs.declared.Judged.{Judged}
use Rattle.judgement.specs.Balance.{RefusedBelowZero, Says}
use Rattle.judgement.specs.Regions.{region_number, region_of, acid_in, acid_of}
use Rattle.judgement.specs.Verdicts.{region, acid_exceedance, nutrient_exceedance, verdict_of, verdict, verdict_numbers, verdict_word, within, over}
use Rattle.judgement.specs.Answers.{judged_of, judgement_answer, judged_values, pair_values}
use Rattle.judgement.proofs.Demand3.{numbers_of_lem}
use Rattle.judgement.proofs.AtSites.{word_tells, refused_below_zero}

-- the verdict from the loads at hand
pub verdict_by_loads :
    (t : Terms) (S N : ℕ)
    → verdict_of (region_of S N (loads_of t).max_s (loads_of t).min_n t.e) (acid_of S N (loads_of t).max_s (loads_of t).min_n t.e) (N - (loads_of t).nut_n)
    ≡ verdict t S N
unfolding verdict region acid_exceedance nutrient_exceedance loads_of
verdict_by_loads t S N = refl

-- the numbers of the verdict are the region's, and both exceedances, of the pair: within as well
pub numbers_are : (t : Terms) (S N : ℕ) → verdict_numbers (verdict t S N) ≡ region_number (region t S N) ∷ acid_exceedance t S N ∷ nutrient_exceedance t N ∷ []
unfolding verdict region acid_exceedance acid_of acid_in
numbers_are t S N = numbers_of_lem (region t S N) (acid_exceedance t S N) (nutrient_exceedance t N) (λ r. rw r)

-- and its word goes by them
word_is : (t : Terms) (S N : ℕ) → verdict_word (verdict t S N) ≡ pick (eqb (region_number (region t S N)) 0 && eqb (nutrient_exceedance t N) 0) within over
unfolding verdict verdict_of verdict_word
word_is t S N = grind (arith, nat_tests)

pub judged_values_lem : (list : List ℕ) (s : Site) → judged_values (judged_of list s) ≡ pair_values (terms_of list s) s.sulphur s.nitrogen
unfolding judged_values judged_of loads_of load_numbers pair_values
judged_values_lem list s = rw (numbers_are (terms_of list s) s.sulphur s.nitrogen, word_is (terms_of list s) s.sulphur s.nitrogen)

module _ (list : List ℕ) (s : Site) where
  -- a site that passes the check is judged
  pub judged_passing : site_rule list s ≡ Ok tt → judgement_answer list s ≡ Ok (judged_of list s)
  unfolding judgement_answer and_then
  judged_passing p = rw p

  pub judged_says : site_rule list s ≡ Ok tt → Says list (verdict_word (judged_of list s).verdict) s
  unfolding judged_of
  judged_says p = word_tells list s p s.sulphur s.nitrogen

  -- what an answer says of its site
  pub judgement_given : (j : Judged) → judgement_answer list s ≡ Ok j → (site_rule list s ≡ Ok tt) × (j ≡ judged_of list s)
  unfolding judgement_answer
  judgement_given = given_by_lem (site_rule list s) (judged_of list s)

  pub judgement_refused : (r : Rule) → judgement_answer list s ≡ Err r → site_rule list s ≡ Err r
  unfolding judgement_answer
  judgement_refused = refused_by (site_rule list s) (judged_of list s)

  -- rule 21 in an answer
  module _ (fields : due_rule list s ≡ Ok tt) where
    pub refused_for : (r : Rule) → site_rule list s ≡ Err r → RefusedBelowZero {A = Judged} list s (Err r)
    unfolding and_then
    refused_for r e = rw e at (refused_below_zero list s fields (judged_of list s))

    pub judged_for : (j : Judged) → site_rule list s ≡ Ok tt → RefusedBelowZero list s (Ok j)
    unfolding and_then
    judged_for j e = rw e at (refused_below_zero list s fields j)
