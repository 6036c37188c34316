-- The check of a site value's bytes with a list, and what the calls promise.
use Prim.Native.Nat.{ℕ, ◌≤◌, ◌<◌}
use mathlib.Core.Path.{◌≡◌, refl, sym, ap, ◌∙◌}
use mathlib.Core.List.{List, ◌++◌}
use native.Mathlib.Omega.{arith}
use lib.ListN.{length, drop, get_or}
use borrow.Author.Tests.{ne_eqb}
use Rattle.std.specs.Prelude.{Result, Ok, Err}
use Rattle.site.specs.Refusal.{and_then, Checked, unless}
use Rattle.loads.specs.Check.{site_rule}
use Rattle.loads.proofs.CheckLaws.{passed_load}
use Rattle.site.specs.declared.Refusal.{Refusal}
use Rattle.site.specs.declared.Rule.TheVariants.{BadLength}
use Rattle.site.specs.declared.RecordKind.TheVariants.{Tag52, Tag53, Tag54, Tag55}
use Rattle.site.specs.declared.Site.{Site}
use Rattle.site.proofs.Passing.{both_passed}
use Rattle.loads.specs.SiteTerms.{terms_of}
use Rattle.loads.specs.CriticalLoads.{load_numbers}
use Rattle.loads.specs.Search.{level_numbers, FewAt}
use Rattle.level.proofs.SiteLevelLaws.{few_at}
use Rattle.judgement.specs.declared.Verdict.{Verdict}
use Rattle.judgement.specs.declared.Verdict.TheVariants.{Within, Over}
use Rattle.judgement.specs.Verdicts.{verdict, verdict_numbers}
use Rattle.judgement.specs.Balance.{MarkSays}
use Rattle.judgement.proofs.Demand3.{verdict_tells}
use Rattle.judgement.proofs.AtSites.{site_bounds}
use Rattle.site.proofs.ByCheckLaws.{unless_ok}
use Rattle.output.specs.Output.{Written, write_answer, held_after}
use Rattle.output.proofs.OutputLaws.{count_is, refused_at_0}
use Rattle.exports.specs.Codes.{code_base, written_code, Decodes, Small}
use Rattle.exports.specs.Numbers.{numbers_written, numbers_held}
use Rattle.exports.specs.Layout.{site_as, kind_in, site_in, value_length, value_check, given, site_load_numbers, mark_number, verdict_marked, judgement_numbers}
use Rattle.exports.proofs.CodeLaws.{decodes}
use Rattle.exports.proofs.LentLaws.{lent_ok, lent_at}

-- ---- the check of the bytes, by their length

module _ (list b : List ℕ) where
  pub wrong_length : (length b ≡ 50 → ⊥) → (length b ≡ 51 → ⊥) → (length b ≡ 55 → ⊥) → (length b ≡ 57 → ⊥) → value_check list b ≡ Err BadLength
  unfolding value_check value_length and_then
  wrong_length h i j k = rw (ne_eqb (length b) 50 h, ne_eqb (length b) 51 i, ne_eqb (length b) 55 j, ne_eqb (length b) 57 k)

  pub as_site : value_length b ≡ Ok tt → value_check list b ≡ site_rule list (site_in b)
  unfolding value_check and_then
  as_site h = rw h

  -- 50 bytes are a value of kind 52, 51 of kind 53, 55 of kind 54, 57 of kind 55
  pub as_52 : length b ≡ 50 → value_check list b ≡ site_rule list (site_as Tag52 b)
  unfolding value_check value_length kind_in and_then
  as_52 h = rw h

  pub as_53 : length b ≡ 51 → value_check list b ≡ site_rule list (site_as Tag53 b)
  unfolding value_check value_length kind_in and_then
  as_53 h = rw h

  pub as_54 : length b ≡ 55 → value_check list b ≡ site_rule list (site_as Tag54 b)
  unfolding value_check value_length kind_in and_then
  as_54 h = rw h

  pub as_55 : length b ≡ 57 → value_check list b ≡ site_rule list (site_as Tag55 b)
  unfolding value_check value_length kind_in and_then
  as_55 h = rw h

  pub value_passes : value_check list b ≡ Ok tt → site_rule list (site_in b) ≡ Ok tt
  unfolding value_check
  value_passes e = (both_passed _ _ e).1

-- ---- what is given for a list and a value

module _ {A : Type 0} (list b : List ℕ) (x : A) where
  -- a value is given where both pass
  pub given_ok : {y : A} → given list b x ≡ Ok y → (value_check list b ≡ Ok tt) × (x ≡ y)
  unfolding given
  given_ok e = let p = unless_ok (value_check list b) 0 (Ok x) (lent_ok list _ e).1 in (p.0, (let z : x ≡ _ = cc in z))

  -- refusals lie within the list, or at 0
  pub given_at : (r : Refusal) → given list b x ≡ Err r → r.at ≤ 7680
  unfolding given unless
  given_at = lent_at list _ (λ r e. omega (arith, unless_at (value_check list b) r e)) (omega arith)
    where
      unless_at : (c : Checked) (r : Refusal) → unless c 0 (Ok x) ≡ Err r → r.at ≡ 0
      unless_at (Ok tt) r e = cc
      unless_at (Err k) r e = cc

-- the check alone
pub check_small : (list b : List ℕ) {l : Written} → l ≡ given list b 0 → Small l
check_small list b is = record {
  count = λ n q. (let z : 0 ≡ n = (given_ok list b 0 (sym is ∙ q)).1 in omega arith);
  offset = λ k q. omega (arith, given_at list b 0 k (sym is ∙ q));
}

-- ---- numbers at the front of a slice that held `old`

counted_passed : (c : Checked) (n : ℕ) {k : ℕ} → write_answer c n ≡ Ok k → c ≡ Ok tt
unfolding unless
counted_passed (Ok tt) n e = refl
counted_passed (Err r) n e = cc

module _ (old : List ℕ) where
  -- a few of them, refused at a small offset if at all, have room in one number
  pub numbers_small : (a : Result (List ℕ) Refusal) {l : Written} → ((xs : List ℕ) → a ≡ Ok xs → length xs < code_base) → ((r : Refusal) → a ≡ Err r → r.at < code_base)
      → l ≡ numbers_written a (length old) → Small l
  unfolding numbers_written
  numbers_small (Ok xs) few near is = record {
    count = λ n q. omega (arith, count_is _ _ (sym is ∙ q), few xs refl);
    offset = λ k q. omega (arith, refused_at_0 _ _ (sym is ∙ q));
  }
  numbers_small (Err r) few near is = record {
    count = λ n q. (let z = sym is ∙ q in cc);
    offset = λ k q. (let z : r ≡ k = (let p = sym is ∙ q in cc) in rw (← z) (near r refl));
  }

  -- where a count was answered, the numbers stand in front
  pub record InPlace (a : Result (List ℕ) Refusal) (new : List ℕ) : Type 0 where
    pub numbers : List ℕ
    pub rest : List ℕ
    pub is : a ≡ Ok numbers
    pub front : new ≡ numbers ++ rest

  pub in_place : (a : Result (List ℕ) Refusal) {n : ℕ} {new : List ℕ} → numbers_written a (length old) ≡ Ok n → new ≡ numbers_held a old → InPlace a new
  unfolding numbers_written numbers_held held_after
  in_place (Ok xs) e h =
      let room = counted_passed _ _ e in
      record { numbers = xs; rest = drop (length xs) old; is = refl; front = rw room at h }
  in_place (Err r) e h = cc

module _ (list b xs old : List ℕ) (few : length xs < code_base) where
  -- answer, buffer, and what the number says
  pub record Promised (r : ℕ) (new : List ℕ) : Type 0 where
    pub answer : r ≡ written_code (numbers_written (given list b xs) (length old))
    pub buffer : new ≡ numbers_held (given list b xs) old
    pub decoded : Decodes (numbers_written (given list b xs) (length old)) r

  pub promised : {q : Result (List ℕ) Refusal} {w : Written} {r : ℕ} {new : List ℕ} → q ≡ given list b xs
      → w ≡ numbers_written q (length old) → new ≡ numbers_held q old → r ≡ written_code w → Promised r new
  promised {q} is written held code =
      let answer = rw is at written in
      record {
        answer = code ∙ ap written_code answer;
        buffer = rw is at held;
        decoded = decodes _ answer code
            (numbers_small old (given list b xs) (λ ys e. (let z : xs ≡ ys = (given_ok list b xs e).1 in rw (← z) few)) (λ r e. omega (arith, given_at list b xs r e)) answer);
      }

  -- where the count is answered, list and value pass and the numbers stand in front
  pub record Stands (new : List ℕ) : Type 0 where
    pub rest : List ℕ
    pub passes : value_check list b ≡ Ok tt
    pub front : new ≡ xs ++ rest

  pub stands : {r n : ℕ} {new : List ℕ} → Promised r new → r ≡ n → n < code_base → Stands new
  stands {r} {n} p e h =
      let place = in_place old (given list b xs) (p.decoded.below (omega arith)) p.buffer in
      let g = given_ok list b xs place.is in
      record { rest = place.rest; passes = g.0; front = place.front ∙ ap (λ ys. ys ++ place.rest) (sym g.1) }

pub length_marked : (v : Verdict) → length (verdict_marked v) ≡ 4
unfolding verdict_marked verdict_numbers
length_marked Within = refl
length_marked (Over r x y) = refl

pub length_judged : (list : List ℕ) (s : Site) → length (judgement_numbers list s) ≡ 8
unfolding judgement_numbers site_load_numbers load_numbers
length_judged list s = omega (arith, length_marked (verdict (terms_of list s) s.sulphur s.nitrogen))

-- ---- demand 3 of the mark

pub mark_tells : (list : List ℕ) (s : Site) → site_rule list s ≡ Ok tt → MarkSays list (mark_number (verdict (terms_of list s) s.sulphur s.nitrogen)) s
unfolding mark_number
mark_tells list s p = verdict_tells (terms_of list s) (site_bounds list s p) (passed_load list s p) s.sulphur s.nitrogen mark_number refl (λ r a n. refl) (λ e. omega arith)

pub mark_at : (v : Verdict) (rest : List ℕ) → get_or (verdict_marked v ++ rest) 3 0 ≡ mark_number v
unfolding verdict_marked verdict_numbers mark_number
mark_at Within rest = refl
mark_at (Over g x y) rest = refl

-- ---- what the numbers say, where they were written

module _ (list b old : List ℕ) where
  -- the mark says whether the balances close
  pub mark_said : {r : ℕ} {new : List ℕ} → (few : _) → Promised list b (judgement_numbers list (site_in b)) old few r new → r ≡ 8 → MarkSays list (get_or new 7 0) (site_in b)
  unfolding judgement_numbers site_load_numbers load_numbers
  mark_said few p e =
      let x = stands list b (judgement_numbers list (site_in b)) old few p e (omega arith) in
      rw (x.front, mark_at (verdict (terms_of list (site_in b)) (site_in b).sulphur (site_in b).nitrogen) x.rest) (mark_tells list (site_in b) (value_passes list b x.passes))

  -- the second number says how many levels were compared
  pub count_said : {r : ℕ} {new : List ℕ} → (few : _) → Promised list b (level_numbers (terms_of list (site_in b))) old few r new → r ≡ 2 → FewAt (terms_of list (site_in b)) (get_or new 1 0)
  unfolding level_numbers
  count_said few p e =
      let x = stands list b (level_numbers (terms_of list (site_in b))) old few p e (omega arith) in
      rw x.front (few_at list (site_in b) (value_passes list b x.passes))

module _ (list b : List ℕ) where
  pub few_loads : length (site_load_numbers list (site_in b)) < code_base
  unfolding site_load_numbers load_numbers
  few_loads = omega arith

  pub few_levels : length (level_numbers (terms_of list (site_in b))) < code_base
  unfolding level_numbers
  few_levels = omega arith

  pub few_judged : length (judgement_numbers list (site_in b)) < code_base
  few_judged = omega (arith, length_judged list (site_in b))
