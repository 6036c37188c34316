-- The site with another pair is the same site: it passes the same checks and has the same terms. From this follows all that the call promises.
use Prim.Native.Nat.{ℕ, ◌≤◌}
use mathlib.Core.Path.{◌≡◌, refl, sym, ap, ◌∙◌, subst}
use mathlib.Core.List.{List, [], ◌∷◌}
use mathlib.Core.Logic.{◌⊎◌, inl, inr}
use lib.ListN.{length}
use native.Mathlib.Omega.{arith}
use Rattle.std.specs.Prelude.{Result, Ok, Err}
use Rattle.site.specs.Check.{fields_rule, due_rule}
use Rattle.loads.specs.Check.{site_rule}
use Rattle.site.specs.Refusal.{values_if, Checked, and_then, unless}
use Rattle.site.specs.Kinds.{due, counted_temperature, counted_dioxide}
use Rattle.site.specs.Values.{item_count, count_rule, value_rule}
use Rattle.site.specs.declared.Site.{Site}
use Rattle.site.specs.declared.RecordKind.{RecordKind}
use Rattle.site.specs.declared.Refusal.{Refusal}
use Rattle.loads.specs.SiteTerms.{terms_of}
use Rattle.loads.proofs.OneSiteLaws.{terms_same, one_with}
use Rattle.judgement.specs.Answers.{judged_of, judgement_answer, pair_values}
use Rattle.judgement.specs.Balance.{Tells}
use Rattle.judgement.specs.Verdicts.{verdict_word, within, over}
use Rattle.judgement.specs.declared.Judged.{Judged}
use Rattle.site.specs.declared.Rule.{Rule}
use Rattle.judgement.proofs.JudgementAnswers.{judged_passing, judged_says, judged_values_lem, judgement_given}
use Rattle.sampler.specs.YearPair.{year_of}
use Rattle.sampler.specs.FirstMonth.{ByMonth, ByYear}
use Rattle.sampler.specs.SampleAnswers.{with_pair, keyed, year_answer, sample_answer, ByKey, sample_values, year_values}
use Rattle.sampler.specs.declared.Month.{Month}
use Rattle.sampler.specs.declared.Pair.{Pair}
use Rattle.sampler.specs.declared.Sampled.{Sampled}
use Rattle.sampler.proofs.FirstMonthLaws.{year_refused}

module _ (list : List ℕ) (s : Site) (p : Pair) where
  fields_same : (k : RecordKind) (ts : List ℕ) → fields_rule list k ts (with_pair s p) ≡ fields_rule list k ts s
  unfolding with_pair fields_rule count_rule item_count value_rule
  fields_same k [] = refl
  fields_same k (t ∷ ts) = ap (and_then (and_then (count_rule t s) (value_rule list k t s))) (fields_same k ts)

  pub pair_terms : terms_of list (with_pair s p) ≡ terms_of list s
  unfolding with_pair counted_temperature counted_dioxide
  pair_terms = terms_same list (with_pair s p) s (one_with s s.kind s.name p.sulphur p.nitrogen s.temperature s.dioxide refl refl)

  due_same : due_rule list (with_pair s p) ≡ due_rule list s
  unfolding with_pair due_rule
  due_same = fields_same s.kind (due s.kind)

  pub pair_rule : site_rule list (with_pair s p) ≡ site_rule list s
  unfolding site_rule
  pair_rule = rw (due_same, pair_terms)

  abbrev keyed_answer : Result Sampled Refusal
  keyed_answer = keyed p (judgement_answer list (with_pair s p))

  -- the judgement's own check is that of the site
  pub keyed_checked : unless (site_rule list s) 0 keyed_answer ≡ keyed_answer
  unfolding unless and_then keyed judgement_answer
  keyed_checked = go (site_rule list s) pair_rule
    where
      go : (c : Checked) → site_rule list (with_pair s p) ≡ c → unless c 0 keyed_answer ≡ keyed_answer
      go (Ok tt) e = refl
      go (Err r) e = rw e

  abbrev judged_pair : Sampled
  judged_pair = record { pair = p; judged = judged_of list (with_pair s p) }

  module _ (passed : site_rule list s ≡ Ok tt) where
    judged_pair_lem : judgement_answer list (with_pair s p) ≡ Ok (judged_of list (with_pair s p))
    judged_pair_lem = judged_passing list (with_pair s p) (pair_rule ∙ passed)

    keyed_given : keyed_answer ≡ Ok judged_pair
    unfolding keyed
    keyed_given = rw judged_pair_lem

    keyed-values : sample_values keyed_answer ≡ p.sulphur ∷ p.nitrogen ∷ pair_values (terms_of list s) p.sulphur p.nitrogen
    unfolding sample_values with_pair
    keyed-values = rw keyed_given (rw (judged_values_lem list (with_pair s p), pair_terms))

    pair_tells : Tells within over (verdict_word (judged_of list (with_pair s p)).verdict) (terms_of list s) p.sulphur p.nitrogen
    unfolding with_pair
    pair_tells = rw pair_terms at (judged_says list (with_pair s p) (pair_rule ∙ passed))

module _ (list : List ℕ) (s : Site) (ms : List Month) where
  -- what an answer that is given says
  pub sample_given : (p : Sampled) → sample_answer list s ms ≡ Ok p → (site_rule list s ≡ Ok tt) × ByKey list s ms p
  unfolding sample_answer unless year_answer
  sample_given p = go (site_rule list s) refl (year_of ms) refl
    where
      go : (c : Checked) → site_rule list s ≡ c → (y : Result Pair Refusal) → year_of ms ≡ y → unless c 0 (year_answer list s y) ≡ Ok p → (site_rule list s ≡ Ok tt) × ByKey list s ms p
      go (Err r) e y f q = absurd (cc)
      go (Ok tt) e (Err r) f q = absurd (cc)
      go (Ok tt) e (Ok y) f q =
          let g = keyed_given list s y e in
          let w : judged_pair list s y ≡ p = cc in
          (e, subst (λ (x : Sampled). ByKey list s ms x) w (record { pair = f; judgement = judged_pair_lem list s y e }))

  says : (p : Sampled) → sample_answer list s ms ≡ Ok p → Tells within over (verdict_word p.judged.verdict) (terms_of list s) p.pair.sulphur p.pair.nitrogen
  says p e =
      let g = sample_given p e in
      let j = (judgement_given _ _ _ g.1.judgement).1 in
      rw j (pair_tells list s p.pair g.0)

  answer_values : sample_values (sample_answer list s ms) ≡ values_if (site_rule list s) (year_values (terms_of list s) (year_of ms))
  unfolding sample_answer unless year_answer values_if year_values sample_values
  answer_values = go (site_rule list s) refl (year_of ms)
    where
      go : (c : Checked) → site_rule list s ≡ c → (y : Result Pair Refusal) → sample_values (unless c 0 (year_answer list s y)) ≡ values_if c (year_values (terms_of list s) y)
      go (Err r) e y = refl
      go (Ok tt) e (Err r) = refl
      go (Ok tt) e (Ok y) = keyed-values list s y e

  -- all that the call promises, from the equation of its answer
  pub sample_promise : (r : Result Sampled Refusal) → r ≡ sample_answer list s ms
      → (r ≡ sample_answer list s ms)
      × (sample_values r ≡ values_if (site_rule list s) (year_values (terms_of list s) (year_of ms)))
      × ((p : Sampled) → r ≡ Ok p → ByKey list s ms p)
      × ((p : Sampled) → r ≡ Ok p → Tells within over (verdict_word p.judged.verdict) (terms_of list s) p.pair.sulphur p.pair.nitrogen)
  sample_promise r is = (is, ap sample_values is ∙ answer_values, λ p q. (sample_given p (sym is ∙ q)).1, λ p q. says p (sym is ∙ q))

-- ---- where an answer is refused

pub checked_at : (c : Checked) (a : Result Sampled Refusal) {most : ℕ} → ((r : Refusal) → a ≡ Err r → r.at ≤ most) → (r : Refusal) → unless c 0 a ≡ Err r → r.at ≤ most
unfolding unless
checked_at (Ok tt) a h r e = h r e
checked_at (Err rule) a h r e = let z : r.at ≡ 0 = cc in omega arith

keyed_at : (p : Pair) (a : Result Judged Rule) (r : Refusal) → keyed p a ≡ Err r → r.at ≡ 0
unfolding keyed
keyed_at p (Ok j) r e = absurd (cc)
keyed_at p (Err rule) r e = cc

pub year_at : (list : List ℕ) (s : Site) (ms : List Month) → length ms ≡ 12 → (r : Refusal) → year_answer list s (year_of ms) ≡ Err r → r.at ≤ 12
unfolding year_answer
year_at list s ms l r = go (year_of ms) refl
  where
    placed : (q : Refusal) → ByMonth ms q ⊎ ByYear ms q → q.at ≤ 12
    placed q (inl f) = let h = f.inside in omega arith
    placed q (inr f) = let h = f.at_12 in omega arith

    go : (y : Result Pair Refusal) → year_of ms ≡ y → year_answer list s y ≡ Err r → r.at ≤ 12
    go (Ok p) f e = let z = keyed_at p (judgement_answer list (with_pair s p)) r e in omega arith
    go (Err q) f e = let same : q.at ≡ r.at = cc in omega (arith, placed q (year_refused ms f))
