-- The search in a species list, by halving what is left.
use mathlib.Core.Path.{◌≡◌}
use mathlib.Core.Logic.{⊎_elim}
use mathlib.Core.Bool.{true, not}
use mathlib.Core.List.{List}
use Prim.Native.Nat.{ℕ, suc, ◌+◌, ◌-◌, ◌≤◌, ◌<◌}
use native.Mathlib.Omega.{arith}
use borrow.Author.Tests.{eq-eqb, ne_eqb}
use lib.Dec.{eqb}
use Rattle.std.specs.Prelude.{Ok}
use Rattle.site.specs.SpeciesList.{entry_count, number_at, place_of, list_rule}
use Rattle.site.proofs.Tests.{le_or_lt}
use Rattle.site.proofs.ListLaws.{first_failing_is, rising}

-- where the wanted number can be: among `size` entries from entry low on
pub record Among (l : List ℕ) (wanted low size : ℕ) : Type 0 where
  pub inside : low + size ≤ entry_count l
  pub below : (j : ℕ) → j < low → number_at l j < wanted
  pub above : (j : ℕ) → low + size ≤ j → j < entry_count l → wanted < number_at l j

module _ (l : List ℕ) (wanted : ℕ) where
  pub starts : Among l wanted 0 (entry_count l)
  starts = record { inside = omega arith; below = λ j h. absurd (omega arith); above = λ j h k. absurd (omega arith) }

  module _ (ok : list_rule l ≡ Ok tt) {low size : ℕ} (a : Among l wanted low size) (half : ℕ) (some : half < size) where
    pub raised : number_at l (low + half) ≤ wanted → Among l wanted (low + half) (size - half)
    raised here = record {
      inside = omega (arith, a.inside);
      below = λ j h. omega (arith, rising l ok j (low + half) h (omega (arith, a.inside)));
      above = λ j h k. a.above j (omega arith) k;
    }

    pub lowered : half ≤ size - half → wanted < number_at l (low + half) → Among l wanted low (size - half)
    lowered fits here = record {
      inside = omega (arith, a.inside);
      below = a.below;
      above = λ j h k.
          ⊎_elim
          (λ (q : suc (low + half) ≤ j). omega (arith, rising l ok (low + half) j q k))
          (λ (q : j < suc (low + half)). let e : j ≡ low + half = omega arith in rw e here)
          (le_or_lt (suc (low + half)) j);
    }

  other : (j : ℕ) → (number_at l j ≡ wanted → ⊥) → not (eqb (number_at l j) wanted) ≡ true
  other j f = rw (ne_eqb (number_at l j) wanted f)

  module _ {low size : ℕ} (a : Among l wanted low size) where
    pub found : low < entry_count l → number_at l low ≡ wanted → place_of l wanted ≡ low
    unfolding place_of
    found h e =
        first_failing_is (λ j. not (eqb (number_at l j) wanted)) (entry_count l) low (omega arith)
        (λ j k. other j (λ q. omega (arith, a.below j k)))
        (λ k. rw (eq-eqb (number_at l low) wanted e))

    -- one entry at most is left; it has another number, so none has it
    pub none : size ≤ 1 → (low < entry_count l → number_at l low ≡ wanted → ⊥) → place_of l wanted ≡ entry_count l
    unfolding place_of
    none few f =
        first_failing_is (λ j. not (eqb (number_at l j) wanted)) (entry_count l) (entry_count l) (omega arith)
        (λ j k.
        other j
        (λ q.
        ⊎_elim
        (λ (h : suc j ≤ low). omega (arith, a.below j h))
        (λ (h : low < suc j).
        ⊎_elim
        (λ (g : suc low ≤ j). omega (arith, a.above j (omega arith) k))
        (λ (g : j < suc low). let e : j ≡ low = omega arith in f (omega arith) (rw e at q))
        (le_or_lt (suc low) j))
        (le_or_lt (suc j) low)))
        (λ k. absurd (omega arith))
