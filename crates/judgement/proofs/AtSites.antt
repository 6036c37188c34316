-- Demand 3 and its consequences at a site that passes the check: the laws on terms, at the site's terms.
use Prim.Native.Nat.{ℕ, ◌≤◌}
use mathlib.Core.Path.{◌≡◌, refl}
use mathlib.Core.Logic.{◌↔◌}
use mathlib.Core.List.{List}
use Rattle.loads.specs.Check.{site_rule}
use Rattle.site.specs.declared.Site.{Site}
use Rattle.std.specs.Prelude.{Ok, Err}
use Rattle.site.specs.declared.Rule.TheVariants.{LoadBelowZero}
use Rattle.site.specs.Refusal.{Checked, and_then}
use Rattle.site.specs.Check.{due_rule}
use Rattle.site.proofs.BoundsLaw as Fields
use Rattle.loads.proofs.CheckLaws.{bounds, passed_load, fields_then}
use Rattle.loads.specs.Terms.{TermBounds}
use Rattle.loads.specs.SiteTerms.{terms_of}
use Rattle.loads.specs.MaxS.{load_rule, cl_max_s}
use Rattle.loads.specs.CriticalLoads.{cl_min_n, loads_of}
use Rattle.site.specs.OneSite.{OneSite}
use Rattle.loads.specs.MostTerms.{most_max_s}
use Rattle.loads.proofs.SiteTermLaws.{term_bounds}
use Rattle.loads.proofs.TermLaws.{cl_max_s_le}
use Rattle.loads.proofs.MaxSLaws.{load_decided, load_negative, negative_load}
use Rattle.loads.proofs.OneSiteLaws.{terms_same}
use Rattle.judgement.specs.declared.Region.TheVariants.{AcidKept}
use Rattle.judgement.specs.declared.Verdict.TheVariants.{Within}
use Rattle.judgement.specs.Verdicts.{region, acid_exceedance, nutrient_exceedance, verdict, verdict_word, within, over}
use Rattle.judgement.specs.Balance.{Closes, RefusedBelowZero, Tells}
use Rattle.judgement.specs.Less.{Stays, NeverWorse}
use Rattle.judgement.proofs.Exceeding.{zero_iff}
use Rattle.judgement.proofs.Demand3.{zero_closes_acid, none_by_rule, within_iff_closes, verdict_tells}
use Rattle.judgement.proofs.Monotone.{within_less, acid_less, nutrient_less}

module _ (list : List ℕ) (s : Site) (passed : site_rule list s ≡ Ok tt) where
  pub site_bounds : TermBounds (terms_of list s)
  site_bounds = term_bounds list s (bounds list s passed)

  pub max_s_le : (loads_of (terms_of list s)).max_s ≤ most_max_s
  unfolding loads_of
  max_s_le = cl_max_s_le (terms_of list s) site_bounds

  -- demand 3, for every pair
  pub demand_3 : (S N : ℕ) → (verdict (terms_of list s) S N ≡ Within) ↔ Closes (terms_of list s) S N
  demand_3 = within_iff_closes (terms_of list s) site_bounds (passed_load list s passed)

  -- and the word says so
  pub word_tells : (S N : ℕ) → Tells within over (verdict_word (verdict (terms_of list s) S N)) (terms_of list s) S N
  unfolding verdict_word
  word_tells S N = verdict_tells (terms_of list s) site_bounds (passed_load list s passed) S N verdict_word refl (λ r a n. refl) (λ e. cc)

  -- the acid exceedance is 0 exactly in region 0
  pub acid_zero : (S N : ℕ) → (acid_exceedance (terms_of list s) S N ≡ 0) ↔ (region (terms_of list s) S N ≡ AcidKept)
  unfolding acid_exceedance region
  acid_zero S N = zero_iff S N (cl_max_s (terms_of list s)) (cl_min_n (terms_of list s)) (terms_of list s).e site_bounds.e_least

  -- two pairs at one site, the second with as much or less S and as much or less N
  module _ (t : Site) (one : OneSite s t) {S N S' N' : ℕ} (less_s : S' ≤ S) (less_n : N' ≤ N) where
    within_stays : verdict (terms_of list s) S N ≡ Within → verdict (terms_of list t) S' N' ≡ Within
    within_stays = rw (← terms_same list s t one) (within_less (terms_of list s) site_bounds less_s less_n (passed_load list s passed))

    closes_stays : Closes (terms_of list s) S N → Closes (terms_of list t) S' N'
    closes_stays k = (demand_3_at S' N').0 (within_stays ((demand_3 S N).1 k))
      where
        demand_3_at : (S N : ℕ) → (verdict (terms_of list t) S N ≡ Within) ↔ Closes (terms_of list t) S N
        demand_3_at = rw (← terms_same list s t one) demand_3

    -- signs that say so stay as well
    pub told_stays : {w v : List ℕ} → Tells within over w (terms_of list s) S N → Tells within over v (terms_of list t) S' N' → Stays w v
    told_stays a b = record {
      still_within = λ e. b.closes.1 (closes_stays (a.closes.0 e));
      not_over = λ e o. b.otherwise.0 o (closes_stays (a.closes.0 e));
    }

    acid_falls : acid_exceedance (terms_of list t) S' N' ≤ acid_exceedance (terms_of list s) S N
    acid_falls = rw (← terms_same list s t one) (acid_less (terms_of list s) site_bounds less_s less_n)

    nutrient_falls : nutrient_exceedance (terms_of list t) N' ≤ nutrient_exceedance (terms_of list s) N
    nutrient_falls = rw (← terms_same list s t one) (nutrient_less (terms_of list s) site_bounds less_s less_n)

-- less deposition is never worse
pub never_worse : NeverWorse
never_worse list s t p l =
    let says : Tells within over (verdict_word (verdict (terms_of list t) t.sulphur t.nitrogen)) (terms_of list t) t.sulphur t.nitrogen =
    rw (← terms_same list s t l.one) (word_tells list s p t.sulphur t.nitrogen) in
    record {
      word = told_stays list s p t l.one l.sulphur l.nitrogen (word_tells list s p s.sulphur s.nitrogen) says;
      acid = acid_falls list s p t l.one l.sulphur l.nitrogen;
      nutrient = nutrient_falls list s p t l.one l.sulphur l.nitrogen;
    }

-- a site whose fields pass is refused, by 21, exactly where no pair closes the acid balance
module _ (list : List ℕ) (s : Site) (fields : due_rule list s ≡ Ok tt) where
  t_bounds : TermBounds (terms_of list s)
  t_bounds = term_bounds list s (Fields.bounds list s fields)

  pub refused_below_zero : {A : Type 0} (x : A) → RefusedBelowZero list s (and_then (site_rule list s) (Ok x))
  unfolding and_then
  refused_below_zero x =
      let by = none_by_rule (terms_of list s) t_bounds in
      let same : site_rule list s ≡ load_rule (terms_of list s) = fields_then list s fields in
      load_decided (terms_of list s)
      (λ p.
      rw (same, p)
      (record {
        negative = (λ e. cc, λ l. absurd (clash p (negative_load (terms_of list s) l)));
        none = (λ e. cc, λ n. absurd (clash p (by.1 n)));
        some = λ y e. zero_closes_acid (terms_of list s) t_bounds p;
      }))
      (λ b. rw (same, b) (record { negative = (λ e. load_negative (terms_of list s) b, λ l. refl); none = (λ e. by.0 b, λ n. refl); some = λ y e. cc }))
    where
      clash : {c : Checked} → c ≡ Ok tt → c ≡ Err LoadBelowZero → ⊥
      clash p q = cc
