-- The check of a species list, and what a list that passes has: numbers that rise.
use mathlib.Core.Path.{◌≡◌, refl, sym, ap, ◌∙◌}
use mathlib.Core.Logic.{inl, inr, ⊎_elim}
use mathlib.Core.Bool.{Bool, true, false, ◌&&◌, true≢false}
use mathlib.Core.List.{List}
use Prim.Native.Nat.{ℕ, zero, suc, ◌+◌, ◌*◌, ◌≤◌, ◌<◌}
use native.Mathlib.Omega.{arith}
use borrow.Author.Tests.{le-leb, lt-leb, leb-true, leb-false, eq-eqb, ne_eqb, eqb-true}
use lib.Dec.{leb, eqb}
use lib.ListN.{length}
use Rattle.std.specs.Prelude.{Ok, Err}
use Rattle.site.specs.declared.Rule.{Rule}
use Rattle.site.specs.declared.Rule.TheVariants.{BadList}
use Rattle.site.specs.Choice.{pick}
use Rattle.site.specs.Refusal.{Checked, rule_number}
use Rattle.site.specs.SpeciesList.{entry_count, number_at, least_at, good_entry, first_failing, first_bad, list_rule, list_fault, Rises, GoodList, BadEntry, broken, outside, not_rising, FirstBad}
use Rattle.site.proofs.Tests.{le_or_lt, and_l, and_r}
use Rattle.site.proofs.Passing.{pass_then}

-- ---- the first number that fails a test

-- it is g, where all before g pass and g does not, or is n
pub first_failing_is : (test : ℕ → Bool) (n g : ℕ) → g ≤ n → ((j : ℕ) → j < g → test j ≡ true) → (g < n → test g ≡ false) → first_failing test n ≡ g
unfolding first_failing
first_failing_is test zero zero h before at = refl
first_failing_is test zero (suc g) h before at = absurd (omega arith)
first_failing_is test (suc n) zero h before at = rw (at (omega arith))
first_failing_is test (suc n) (suc g) h before at =
    rw (before 0 (omega arith))
    (ap suc (first_failing_is (λ k. test (suc k)) n g (omega arith) (λ j l. before (suc j) (omega arith)) (λ l. at (omega arith))))

-- where it is n, all pass
pub first_failing_all : (test : ℕ → Bool) (n : ℕ) → first_failing test n ≡ n → (j : ℕ) → j < n → test j ≡ true
unfolding first_failing
first_failing_all test zero e j l = absurd (omega arith)
first_failing_all test (suc n) e j l = by_test (test 0) refl e j l (λ q i k. first_failing_all (λ k. test (suc k)) n q i k)
  where
    by_test : (b : Bool) → test 0 ≡ b → pick b (suc (first_failing (λ k. test (suc k)) n)) 0 ≡ suc n → (j : ℕ) → j < suc n
        → (first_failing (λ k. test (suc k)) n ≡ n → (i : ℕ) → i < n → test (suc i) ≡ true) → test j ≡ true
    by_test true is q zero l more = is
    by_test true is q (suc j) l more = more (omega arith) j (omega arith)
    by_test false is q j l more = absurd (omega arith)

pub first_failing_le : (test : ℕ → Bool) (n : ℕ) → first_failing test n ≤ n
unfolding first_failing
first_failing_le test zero = omega arith
first_failing_le test (suc n) = by_test (test 0) (first_failing_le (λ k. test (suc k)) n)
  where
    by_test : (b : Bool) → first_failing (λ k. test (suc k)) n ≤ n → pick b (suc (first_failing (λ k. test (suc k)) n)) 0 ≤ suc n
    by_test true h = omega arith
    by_test false h = omega arith

-- all before it pass
pub first_failing_before : (test : ℕ → Bool) (n j : ℕ) → j < first_failing test n → test j ≡ true
unfolding first_failing
first_failing_before test zero j l = absurd (omega arith)
first_failing_before test (suc n) j l = by_test (test 0) refl j l (λ i k. first_failing_before (λ k. test (suc k)) n i k)
  where
    by_test : (b : Bool) → test 0 ≡ b → (j : ℕ) → j < pick b (suc (first_failing (λ k. test (suc k)) n)) 0
        → ((i : ℕ) → i < first_failing (λ k. test (suc k)) n → test (suc i) ≡ true) → test j ≡ true
    by_test true is zero l more = is
    by_test true is (suc j) l more = more j (omega arith)
    by_test false is j l more = absurd (omega arith)

-- and below n it fails
first_failing_fails : (test : ℕ → Bool) (n : ℕ) → first_failing test n < n → test (first_failing test n) ≡ false
unfolding first_failing
first_failing_fails test zero l = absurd (omega arith)
first_failing_fails test (suc n) l = by_test (test 0) refl l (λ k. first_failing_fails (λ k. test (suc k)) n k)
  where
    by_test : (b : Bool) → test 0 ≡ b → pick b (suc (first_failing (λ k. test (suc k)) n)) 0 < suc n
        → (first_failing (λ k. test (suc k)) n < n → test (suc (first_failing (λ k. test (suc k)) n)) ≡ false)
        → test (pick b (suc (first_failing (λ k. test (suc k)) n)) 0) ≡ false
    by_test true is l more = more (omega arith)
    by_test false is l more = is

-- ---- the check

-- the first i entries are good, and the next must be at least `least`
pub record Good (l : List ℕ) (i least : ℕ) : Type 0 where
  pub least_is : least ≡ least_at l i
  pub before : (j : ℕ) → j < i → good_entry l j ≡ true

pub good_none : (l : List ℕ) → Good l 0 256
unfolding least_at
good_none l = record { least_is = refl; before = λ j h. absurd (omega arith) }

pub good_more : (l : List ℕ) (i least number : ℕ) → Good l i least → number ≡ number_at l i → least ≤ number → number ≤ 1023 → Good l (i + 1) (number + 1)
unfolding least_at good_entry
good_more l i least number g is low high =
    let next : i + 1 ≡ suc i = omega arith in
    record {
      least_is = rw (next, is);
      before = λ j h.
          ⊎_elim
          (λ (q : suc j ≤ i). g.before j q)
          (λ (q : i < suc j).
          let e : j ≡ i = omega arith in
          rw (e, le-leb (least_at l i) (number_at l i) (omega (arith, g.least_is)), le-leb (number_at l i) 1023 (omega arith)))
          (le_or_lt (suc j) i);
    }

-- ---- what it answers

module _ (l : List ℕ) {i least : ℕ} (g : Good l i least) where
  bad_is : i ≤ entry_count l → (i < entry_count l → good_entry l i ≡ false) → first_bad l ≡ i
  unfolding first_bad
  bad_is h f = first_failing_is (good_entry l) (entry_count l) i h g.before f

  -- an entry that breaks the rule
  pub bad_at : i ≤ entry_count l → 10 * i < length l → (i < entry_count l → good_entry l i ≡ false) → (list_rule l ≡ Err BadList) × (10 * i ≡ list_fault l)
  unfolding list_rule list_fault
  bad_at h room f =
      let e = bad_is h f in
      (rw (e, ne_eqb (10 * i) (length l) (λ q. omega arith)), rw e)

  pub good_list : i ≡ entry_count l → length l ≡ 10 * i → list_rule l ≡ Ok tt
  unfolding list_rule
  good_list h room =
      let e = bad_is (omega arith) (λ k. absurd (omega arith)) in
      rw (e, eq-eqb (10 * i) (length l) (omega arith))

  pub low_bad : number_at l i < least → good_entry l i ≡ false
  unfolding good_entry
  low_bad h = rw (lt-leb (least_at l i) (number_at l i) (omega (arith, g.least_is)))

  pub high_bad : 1023 < number_at l i → good_entry l i ≡ false
  unfolding good_entry
  high_bad h = and_false (leb (least_at l i) (number_at l i)) (lt-leb (number_at l i) 1023 h)
    where
      and_false : (b : Bool) {c : Bool} → c ≡ false → b && c ≡ false
      and_false true e = e
      and_false false e = refl

-- ---- the least number of an entry

least_first : (l : List ℕ) → least_at l 0 ≡ 256
unfolding least_at
least_first l = refl

least_next : (l : List ℕ) (j : ℕ) → least_at l (suc j) ≡ number_at l j + 1
unfolding least_at
least_next l j = refl

-- ---- entries that are good

module _ (l : List ℕ) where
  good_from : (j : ℕ) → good_entry l j ≡ true → (least_at l j ≤ number_at l j) × (number_at l j ≤ 1023)
  unfolding good_entry
  good_from j g = (leb-true (least_at l j) (number_at l j) (and_l _ _ g), leb-true (number_at l j) 1023 (and_r (leb (least_at l j) (number_at l j)) _ g))

  module _ (n : ℕ) (good : (j : ℕ) → j < n → good_entry l j ≡ true) where
    next_above : (j : ℕ) → suc j < n → number_at l j < number_at l (suc j)
    unfolding least_at
    next_above j h = omega (arith, (good_from (suc j) (good (suc j) h)).0)

    above : (i j : ℕ) → i < j → j < n → number_at l i < number_at l j
    above i zero h k = absurd (omega arith)
    above i (suc j) h k =
        ⊎_elim
        (λ (q : suc i ≤ j). let z = above i j q (omega arith) in omega (arith, next_above j k))
        (λ (q : j < suc i). let e : i ≡ j = omega arith in rw e (next_above j k))
        (le_or_lt (suc i) j)

    -- their numbers rise from 256
    from_256 : (j : ℕ) → j < n → 256 + j ≤ number_at l j
    unfolding least_at
    from_256 zero h = omega (arith, (good_from 0 (good 0 h)).0)
    from_256 (suc j) h = omega (arith, from_256 j (omega arith), next_above j h)

    good_rises : Rises l n
    good_rises = record { inside = λ i h. (omega (arith, from_256 i h), (good_from i (good i h)).1); rises = above }

  -- and the other way round
  rises_good : (n : ℕ) → Rises l n → (j : ℕ) → j < n → good_entry l j ≡ true
  unfolding good_entry
  rises_good n r j h = rw (le-leb (least_at l j) (number_at l j) (least j h), le-leb (number_at l j) 1023 (r.inside j h).1)
    where
      least : (j : ℕ) → j < n → least_at l j ≤ number_at l j
      least zero h = rw (least_first l) (r.inside 0 h).0
      least (suc j) h = rw (least_next l j) (omega (arith, r.rises j (suc j) (omega arith) h))

-- ---- a list passes exactly where it is good

module _ (l : List ℕ) where
  all_whole : list_rule l ≡ Ok tt → 10 * first_bad l ≡ length l
  unfolding list_rule
  all_whole ok = eqb-true (10 * first_bad l) (length l) (pass_then (eqb (10 * first_bad l) (length l)) BadList (Ok tt) ok).0

  each_good : list_rule l ≡ Ok tt → (j : ℕ) → j < entry_count l → good_entry l j ≡ true
  unfolding first_bad
  each_good ok = first_failing_all (good_entry l) (entry_count l) (omega (arith, all_whole ok))

  pub passing_list : list_rule l ≡ Ok tt → GoodList l
  passing_list ok = record { whole = omega (arith, all_whole ok); numbers = good_rises l (entry_count l) (each_good ok) }

  pub good_passes : GoodList l → list_rule l ≡ Ok tt
  good_passes g =
      let start : Good l (entry_count l) (least_at l (entry_count l)) = record { least_is = refl; before = rises_good l (entry_count l) g.numbers } in
      good_list l start refl g.whole

-- its numbers rise
pub rising : (l : List ℕ) → list_rule l ≡ Ok tt → (i j : ℕ) → i < j → j < entry_count l → number_at l i < number_at l j
rising l ok = (passing_list l ok).numbers.rises

-- ---- where a list is refused

module _ (l : List ℕ) where
  first_before : (j : ℕ) → j < first_bad l → good_entry l j ≡ true
  unfolding first_bad
  first_before = first_failing_before (good_entry l) (entry_count l)

  first_inside : first_bad l ≤ entry_count l
  unfolding first_bad
  first_inside = first_failing_le (good_entry l) (entry_count l)

  first_fails : first_bad l < entry_count l → good_entry l (first_bad l) ≡ false
  unfolding first_bad
  first_fails = first_failing_fails (good_entry l) (entry_count l)

  -- an entry that is not good, of which all bytes are there
  why_bad : (i : ℕ) → i < entry_count l → good_entry l i ≡ false → BadEntry l i
  unfolding good_entry
  why_bad i h f = by_least (leb (least_at l i) (number_at l i)) refl f
    where
      low : (i : ℕ) → i < entry_count l → number_at l i < least_at l i → BadEntry l i
      low zero h less = outside (omega arith) (inl (rw (least_first l) at less))
      low (suc j) h less = not_rising (omega arith) j refl (omega (arith, rw (least_next l j) at less))

      by_least : (b : Bool) → leb (least_at l i) (number_at l i) ≡ b → b && leb (number_at l i) 1023 ≡ false → BadEntry l i
      by_least false is e = low i h (leb-false (least_at l i) (number_at l i) is)
      by_least true is e = outside (omega arith) (inr (leb-false (number_at l i) 1023 e))

  -- the first bad entry is named, and all before it are good
  pub refused_list : {r : Rule} → list_rule l ≡ Err r → (r ≡ BadList) × FirstBad l (list_fault l)
  unfolding list_rule list_fault
  refused_list {r} e =
      let n = first_bad l in
      let p = refused_by_test (eqb (10 * n) (length l)) refl e in
      (p.0, record { entry = n; offset = refl; before = good_rises l n first_before; here = here p.1 })
    where
      refused_by_test : (b : Bool) → eqb (10 * first_bad l) (length l) ≡ b → ◌≡◌ {A = Checked} (pick b (Ok tt) (Err BadList)) (Err r) → (r ≡ BadList) × (10 * first_bad l ≡ length l → ⊥)
      refused_by_test true is q = cc
      refused_by_test false is q = (let z : BadList ≡ r = cc in sym z, λ same. true≢false (sym (eq-eqb _ _ same) ∙ is))

      here : (10 * first_bad l ≡ length l → ⊥) → BadEntry l (first_bad l)
      here other =
          ⊎_elim
          (λ (h : suc (first_bad l) ≤ entry_count l). why_bad (first_bad l) h (first_fails h))
          (λ (h : entry_count l < suc (first_bad l)). broken (omega (arith, first_inside, other)) (omega (arith, first_inside)))
          (le_or_lt (suc (first_bad l)) (entry_count l))

  -- there are 768 good entries at most
  pub fault_near : list_fault l ≤ 7680
  unfolding list_fault
  fault_near =
      let n = first_bad l in
      ⊎_elim
      (λ (h : n ≤ 768). omega arith)
      (λ (h : 768 < n). let r = good_rises l n first_before in absurd (omega (arith, from_256 l n first_before 768 h, (r.inside 768 h).1)))
      (le_or_lt n 768)

-- what is answered of a list that is refused at an offset
pub refused_at : (l : List ℕ) (at : ℕ) → (list_rule l ≡ Err BadList) × (at ≡ list_fault l)
    → record {
      answer : (list_rule l ≡ Err BadList) × (at ≡ list_fault l);
      number : (rule_number BadList ≡ 15) × FirstBad l at;
    }
refused_at l at e = record { answer = e; number = (refl, rw e.1 (refused_list l e.0).1) }
