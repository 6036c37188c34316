-- What the check of a list and the search in it say, in a reader's words.
use mathlib.Core.Path.{◌≡◌, refl}
use mathlib.Core.Bool.{true, false, not}
use mathlib.Core.List.{List, []}
use Prim.Native.Nat.{ℕ, ◌<◌}
use native.Mathlib.Omega.{arith}
use borrow.Author.Tests.{lt-ltb, le-ltb, eq-eqb, ne_eqb}
use lib.Dec.{eqb}
use Rattle.std.specs.Prelude.{Ok}
use Rattle.site.specs.SpeciesList.{entry_count, number_at, first_failing, first_bad, list_rule, place_of, lists}
use Rattle.site.proofs.ListLaws.{first_failing_is, rising}

pub empty_good : list_rule [] ≡ Ok tt
unfolding list_rule first_bad first_failing
empty_good = refl

module _ (l : List ℕ) (ok : list_rule l ≡ Ok tt) where
  -- the search finds the entry with a number
  pub entry_found : (i : ℕ) → i < entry_count l → (place_of l (number_at l i) ≡ i) × (lists l (number_at l i) ≡ true)
  unfolding place_of lists
  entry_found i h =
      let found =
      first_failing_is (λ j. not (eqb (number_at l j) (number_at l i))) (entry_count l) i (omega arith)
      (λ j k. rw (ne_eqb (number_at l j) (number_at l i) (λ e. omega (arith, rising l ok j i k h))))
      (λ k. rw (eq-eqb (number_at l i) (number_at l i) refl)) in
      (found, rw (found, lt-ltb i (entry_count l) h))

  -- and no number that stands in no entry
  pub none_found : (number : ℕ) → ((i : ℕ) → i < entry_count l → number_at l i ≡ number → ⊥) → lists l number ≡ false
  unfolding place_of lists
  none_found number f =
      rw (
        first_failing_is (λ j. not (eqb (number_at l j) number)) (entry_count l) (entry_count l) (omega arith)
            (λ j k. rw (ne_eqb (number_at l j) number (f j k))) (λ k. absurd (omega arith)),
        le-ltb (entry_count l) (entry_count l) (omega arith),
      )
