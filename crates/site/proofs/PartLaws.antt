-- Laws of the first n elements of a list, and of a test of each element.
use mathlib.Core.Path.{◌≡◌, sym, ◌∙◌}
use mathlib.Core.Logic.{⊎_elim}
use mathlib.Core.Bool.{Bool, true, false}
use mathlib.Core.List.{List, [], ◌∷◌}
use Prim.Native.Nat.{ℕ, zero, suc, ◌+◌, ◌≤◌, ◌<◌, min}
use native.Mathlib.Omega.{arith}
use native.Mathlib.Numerals.{add-one}
use lib.ListN.{length, get_or, take, drop, length-take, drop_of_length-le}
use lib.Seq.{drop-cons, get_or-take, take_all}
use Rattle.std.specs.List.{list_all}
use Rattle.site.proofs.Tests.{le_or_lt, and_l, and_r}

module _ {ℓ} {A : Type ℓ} where
  -- what is left of the first n elements of l, from element i on
  pub part_end : (n i : ℕ) (l : List A) → min n (length l) ≤ i → drop i (take n l) ≡ []
  part_end n i l h = drop_of_length-le (take n l) {i = i} (simp length-take (omega arith))

  pub part_cons : (n i : ℕ) (l : List A) (d : A) → i < min n (length l) → drop i (take n l) ≡ get_or l i d ∷ drop (i + 1) (take n l)
  part_cons n i l d h =
      let inside : i < length (take n l) = simp length-take (omega arith) in
      let below : i < n = omega arith in
      rw (add-one, drop-cons (take n l) i d, get_or-take n l i d)

  -- n elements, or all that there are
  pub take_min : (l : List A) (n k : ℕ) → k ≡ min n (length l) → take k l ≡ take n l
  take_min l n k e =
      ⊎_elim
      (λ (h : n ≤ length l). let s : k ≡ n = omega arith in rw s)
      (λ (h : length l < n). take_all k l (omega arith) ∙ sym (take_all n l (omega arith)))
      (le_or_lt n (length l))

-- ---- a test of each element

module _ {A : Type 0} where
  -- of the first n, at element i
  module _ (n i : ℕ) (l : List A) (d : A) (h : i < min n (length l)) where
    pub all_next : (f : A → Bool) → f (get_or l i d) ≡ true → list_all f (drop i (take n l)) ≡ list_all f (drop (i + 1) (take n l))
    all_next f e = rw (part_cons n i l d h, e)

    pub all_stop : (f : A → Bool) → f (get_or l i d) ≡ false → list_all f (drop i (take n l)) ≡ false
    all_stop f e = rw (part_cons n i l d h, e)

  pub test_at : (f : A → Bool) (l : List A) (i : ℕ) (d : A) → i < length l → list_all f l ≡ true → f (get_or l i d) ≡ true
  test_at f [] i d h e = absurd (omega arith)
  test_at f (x ∷ l) zero d h e = and_l (f x) (list_all f l) e
  test_at f (x ∷ l) (suc i) d h e = test_at f l i d (omega arith) (and_r (f x) (list_all f l) e)

  -- a default that passes too spares the index's bound
  pub all_get_d : (f : A → Bool) (l : List A) (i : ℕ) (d : A) → f d ≡ true → list_all f l ≡ true → f (get_or l i d) ≡ true
  all_get_d f [] i d p e = p
  all_get_d f (x ∷ l) zero d p e = and_l (f x) (list_all f l) e
  all_get_d f (x ∷ l) (suc i) d p e = all_get_d f l i d p (and_r (f x) (list_all f l) e)
