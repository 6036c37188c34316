-- Sums over a stand.
use Prim.Native.Nat.{ℕ, zero, suc, ◌+◌, ◌<◌}
use mathlib.Core.Path.{◌≡◌, refl}
use mathlib.Core.List.{List, [], ◌∷◌}
use native.Mathlib.Omega.{arith}
use native.Mathlib.Nat.{zero-mul}
use lib.ListN.{get_or, length, take, length-take}
use Rattle.std.proofs.lemmas.List.Sums.{sum_by-cons}
use Rattle.std.proofs.lemmas.List.{get_or-take}
use Rattle.site.specs.Bounds.{no_entry, StandBounds}
use Rattle.site.specs.declared.Entry.{Entry}
use Rattle.loads.specs.Uptake.{weight_of, stand_sum}

module _ (content_in : ℕ → ℕ) where
  pub sum_none : (l : List Entry) → stand_sum content_in l 0 ≡ 0
  unfolding stand_sum
  sum_none l = refl

  -- what one more entry adds; past the end of the list it is nothing
  pub sum_more : (l : List Entry) (i : ℕ) → stand_sum content_in l (suc i) ≡ stand_sum content_in l i + weight_of content_in (get_or l i no_entry)
  unfolding stand_sum weight_of
  sum_more [] zero = simp (zero-mul)
  sum_more [] (suc i) = simp (zero-mul)
  sum_more (x ∷ xs) zero = omega arith
  sum_more (x ∷ xs) (suc i) = omega (arith, sum_by-cons (weight_of content_in), sum_more xs i)

-- the entries alone are within the bounds of the stand that they begin
pub entries_bounds : (stand : List Entry) (n : ℕ) → StandBounds stand n → StandBounds (take n stand) (length (take n stand))
entries_bounds stand n b = record {
  count = omega (arith, b.count, length-take {A = Entry});
  each = λ i h. let below : i < n = omega (arith, length-take {A = Entry}) in rw (get_or-take n stand i no_entry below) (b.each i below);
}
