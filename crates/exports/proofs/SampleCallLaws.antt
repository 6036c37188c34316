-- The answer for a site value and its months, and what the call promises.
use Prim.Native.Nat.{ℕ, ◌≤◌, ◌<◌}
use mathlib.Core.Path.{◌≡◌, refl, sym, ap, ◌∙◌, subst}
use mathlib.Core.List.{List, [], ◌∷◌, ◌++◌}
use native.Mathlib.Omega.{arith}
use lib.ListN.{length, get_or, take}
use borrow.Author.Tests.{eq-eqb, ne_eqb}
use Rattle.std.specs.Prelude.{Result, Ok, Err}
use Rattle.site.specs.Bytes.{tabulate}
use Rattle.loads.specs.Check.{site_rule}
use Rattle.site.specs.Refusal.{Checked, unless}
use Rattle.site.proofs.ByCheckLaws.{unless_ok}
use Rattle.site.specs.declared.Refusal.{Refusal}
use Rattle.site.specs.declared.Rule.TheVariants.{BadLength}
use Rattle.site.specs.declared.Site.{Site}
use Rattle.loads.specs.Terms.{Terms}
use Rattle.loads.specs.SiteTerms.{terms_of}
use Rattle.loads.specs.CriticalLoads.{load_numbers}
use Rattle.judgement.specs.Answers.{judged_of}
use Rattle.judgement.specs.Balance.{Tells}
use Rattle.judgement.specs.declared.Verdict.{Verdict}
use Rattle.judgement.specs.declared.Verdict.TheVariants.{Within, Over}
use Rattle.judgement.specs.declared.Judged.{Judged}
use Rattle.judgement.specs.Verdicts.{verdict_numbers}
use Rattle.judgement.proofs.JudgementAnswers.{judgement_given}
use Rattle.output.specs.Output.{Written}
use Rattle.readings.specs.MonthBytes.{months_in}
use Rattle.sampler.specs.SampleAnswers.{with_pair, year_answer, ByKey, sample_answer}
use Rattle.sampler.specs.YearPair.{year_of}
use Rattle.sampler.specs.declared.Month.{Month}
use Rattle.sampler.specs.declared.Pair.{Pair}
use Rattle.sampler.specs.declared.Sampled.{Sampled}
use Rattle.sampler.proofs.SampleLaws.{pair_rule, pair_terms, sample_given, checked_at, year_at}
use Rattle.exports.specs.Codes.{code_base, written_code, Small}
use Rattle.exports.specs.Layout.{site_in, value_length, value_check, site_load_numbers, mark_number, verdict_marked, judged_numbers, judgement_numbers}
use Rattle.exports.specs.Samples.{months_length, sample_in, sampled_numbers, sampled, sample_written, sample_held, NumbersByKey}
use Rattle.exports.proofs.CodeLaws.{count_below}
use Rattle.exports.proofs.LentLaws.{lent_ok, lent_at}
use Rattle.exports.proofs.SiteValueLaws.{wrong_length, as_site, value_passes, numbers_small, InPlace, in_place, length_marked, mark_tells, mark_at}

-- ---- the bytes

module _ (b list m : List ℕ) where
  -- what follows the list's check
  abbrev pub sample_listed : Result Sampled Refusal
  sample_listed = unless (value_check list b) 0 (unless (months_length m) 0 (year_answer list (site_in b) (year_of (months_in m))))

  -- the checks of the site come before the length of the months
  pub months_length_lem : value_length b ≡ Ok tt → (length m ≡ 204 → ⊥) → sample_listed ≡ unless (site_rule list (site_in b)) 0 (Err (record { rule = BadLength; at = 0 }))
  unfolding months_length unless
  months_length_lem h n = rw (as_site list b h, ne_eqb (length m) 204 n)

  pub site_length : (length b ≡ 50 → ⊥) → (length b ≡ 51 → ⊥) → (length b ≡ 55 → ⊥) → (length b ≡ 57 → ⊥) → sample_listed ≡ Err (record { rule = BadLength; at = 0 })
  unfolding unless
  site_length h i j k = rw (wrong_length list b h i j k)

  pub both_whole : value_length b ≡ Ok tt → length m ≡ 204 → sample_listed ≡ sample_answer list (site_in b) (months_in m)
  unfolding months_length sample_answer unless
  both_whole h n = rw (as_site list b h, eq-eqb (length m) 204 n)

  twelve : length (months_in m) ≡ 12
  unfolding tabulate
  twelve = refl

  -- a refusal's offset is small
  pub sample_at : (r : Refusal) → sample_in b list m ≡ Err r → r.at ≤ 7680
  unfolding sample_in
  sample_at = lent_at list sample_listed (λ r e. (let z = checked_at (value_check list b) _ (checked_at (months_length m) _ (year_at list (site_in b) (months_in m) twelve)) r e in omega arith)) (omega arith)

  -- what is given is the call's own answer for the site and the months
  whole_given : (p : Sampled) → sample_in b list m ≡ Ok p → (site_rule list (site_in b) ≡ Ok tt) × ByKey list (site_in b) (months_in m) p
  unfolding sample_in unless sample_answer
  whole_given p e =
      let c = unless_ok (value_check list b) 0 _ (lent_ok list sample_listed e).1 in
      let d = unless_ok (months_length m) 0 _ c.1 in
      sample_given list (site_in b) (months_in m) p (passing (site_rule list (site_in b)) (value_passes list b c.0) d.1)
    where
      passing : (k : Checked) → k ≡ Ok tt → {a : Result Sampled Refusal} → a ≡ Ok p → unless k 0 a ≡ Ok p
      passing k f g = rw (f, g)

-- ---- what the ten numbers say

eight : (j : Judged) (rest : List ℕ) → take 8 (judged_numbers j ++ rest) ≡ judged_numbers j
unfolding judged_numbers load_numbers verdict_marked verdict_numbers
eight j rest = ap (λ (xs : List ℕ). load_numbers j.loads ++ xs) (go j.verdict)
  where
    go : (v : Verdict) → take 4 (verdict_marked v ++ rest) ≡ verdict_marked v
    go Within = refl
    go (Over r x y) = refl

module _ (list : List ℕ) (s : Site) (q : Pair) where
  -- the judgement of the site with the pair
  of_pair : judged_numbers (judged_of list (with_pair s q)) ≡ judgement_numbers list (with_pair s q)
  unfolding judged_numbers judgement_numbers site_load_numbers judged_of
  of_pair = refl

  marked : site_rule list s ≡ Ok tt → Tells 0 1 (mark_number (judged_of list (with_pair s q)).verdict) (terms_of list s) q.sulphur q.nitrogen
  unfolding judged_of with_pair
  marked p =
      subst (λ (t : Terms). Tells 0 1 (mark_number (judged_of list (with_pair s q)).verdict) t q.sulphur q.nitrogen) (pair_terms list s q) (mark_tells list (with_pair s q) (pair_rule list s q ∙ p))

module _ (list : List ℕ) (s : Site) (ms : List Month) (p : Sampled) (given : (site_rule list s ≡ Ok tt) × ByKey list s ms p) (rest : List ℕ) where
  is_judged : p.judged ≡ judged_of list (with_pair s p.pair)
  is_judged = (judgement_given _ _ _ given.1.judgement).1

  numbers_by_key : take 8 (judged_numbers p.judged ++ rest) ≡ judgement_numbers list (with_pair s p.pair)
  numbers_by_key = eight p.judged rest ∙ ap judged_numbers is_judged ∙ of_pair list s p.pair

  mark_by_key : Tells 0 1 (get_or (judged_numbers p.judged ++ rest) 7 0) (terms_of list s) p.pair.sulphur p.pair.nitrogen
  unfolding judged_numbers load_numbers
  mark_by_key = rw (mark_at p.judged.verdict rest, is_judged) (marked list s p.pair given.0)

-- the eight numbers, one by one
abbrev pub elements : List ℕ → List ℕ
elements l = get_or l 0 0 ∷ get_or l 1 0 ∷ get_or l 2 0 ∷ get_or l 3 0 ∷ get_or l 4 0 ∷ get_or l 5 0 ∷ get_or l 6 0 ∷ get_or l 7 0 ∷ []

judged_elements : (j : Judged) → elements (judged_numbers j) ≡ judged_numbers j
unfolding judged_numbers load_numbers verdict_marked verdict_numbers
judged_elements j = go j.verdict
  where
    go : (v : Verdict) → elements (load_numbers j.loads ++ verdict_marked v) ≡ load_numbers j.loads ++ verdict_marked v
    go Within = refl
    go (Over r x y) = refl

pub sampled_elements : (p : Sampled) {l : List ℕ} → l ≡ judged_numbers p.judged → p.pair.sulphur ∷ p.pair.nitrogen ∷ elements l ≡ sampled_numbers p
unfolding sampled_numbers
sampled_elements p e = rw (e, judged_elements)

length_sampled : (p : Sampled) → length (sampled_numbers p) ≡ 10
unfolding sampled_numbers judged_numbers load_numbers
length_sampled p = omega (arith, length_marked p.judged.verdict)

-- ---- the call

module _ (b list m old : List ℕ) where
  abbrev answer : Written
  answer = sample_written (sample_in b list m) (length old)

  few : (a : Result Sampled Refusal) (xs : List ℕ) → sampled a ≡ Ok xs → length xs < code_base
  unfolding sampled
  few (Ok p) xs e = let z : sampled_numbers p ≡ xs = cc in rw (← z) (omega (arith, length_sampled p))
  few (Err r) xs e = cc

  near : (a : Result Sampled Refusal) → sample_in b list m ≡ a → (r : Refusal) → sampled a ≡ Err r → r.at < code_base
  unfolding sampled
  near (Ok p) is r e = cc
  near (Err k) is r e = let same : k ≡ r = cc in rw (← same) (omega (arith, sample_at b list m k is))

  pub sample_small : {l : Written} → l ≡ answer → Small l
  sample_small = numbers_small old (sampled (sample_in b list m)) (few (sample_in b list m)) (near (sample_in b list m) refl)

  -- where ten numbers were written, they are those that were given
  record TenGiven (new : List ℕ) : Type 0 where
    sample : Sampled
    rest : List ℕ
    is : sample_in b list m ≡ Ok sample
    front : new ≡ sampled_numbers sample ++ rest

  ten_given : {new : List ℕ} → InPlace old (sampled (sample_in b list m)) new → TenGiven new
  unfolding sampled
  ten_given {new} place = go (sample_in b list m) refl place.is
    where
      go : (a : Result Sampled Refusal) → sample_in b list m ≡ a → sampled a ≡ Ok place.numbers → TenGiven new
      go (Ok p) is e = let z : sampled_numbers p ≡ place.numbers = cc in record { sample = p; rest = place.rest; is = is; front = rw z place.front }
      go (Err r) is e = cc

  module _ {r : ℕ} {new : List ℕ} (code : r ≡ written_code answer) (held : new ≡ sample_held (sample_in b list m) old) (ten : r ≡ 10) where
    place : TenGiven new
    place = ten_given (in_place old (sampled (sample_in b list m)) (count_below answer (sym ten ∙ code) (omega arith)) held)

    given_by : (site_rule list (site_in b) ≡ Ok tt) × ByKey list (site_in b) (months_in m) place.sample
    given_by = whole_given b list m place.sample place.is

    pub by_key : NumbersByKey b list m new
    unfolding sampled_numbers
    by_key = rw place.front (record { pair = given_by.1.pair; judgement = numbers_by_key list (site_in b) (months_in m) place.sample given_by place.rest })

    pub mark_says : Tells 0 1 (get_or new 9 0) (terms_of list (site_in b)) (get_or new 0 0) (get_or new 1 0)
    unfolding sampled_numbers
    mark_says = rw place.front (mark_by_key list (site_in b) (months_in m) place.sample given_by place.rest)
