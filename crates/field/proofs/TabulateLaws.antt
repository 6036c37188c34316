-- Laws of arrays that are filled from a list, with zeros past its end.
use mathlib.Core.Path.{◌≡◌, refl, ap, ◌∙◌}
use mathlib.Core.List.{List, [], ◌∷◌, ◌++◌}
use Prim.Native.Nat.{ℕ, zero, suc, ◌≤◌}
use native.Mathlib.Nat.{le_of_suc-le-suc, not-suc-le-zero}
use native.Mathlib.Omega.{arith}
use lib.ListN.{length, get_or, take, replicate}
use Rattle.std.proofs.lemmas.List.{take-append-le}
use Rattle.site.specs.Bytes.{tabulate}

module _ {ℓ} {A : Type ℓ} where
  pub tabulate-get_or : (l : List A) (d : A) → tabulate (length l) (λ i. get_or l i d) ≡ l
  unfolding tabulate
  tabulate-get_or [] d = refl
  tabulate-get_or (x ∷ l) d = ap (λ (r : List A). x ∷ r) (tabulate-get_or l d)

  pub tabulate_cong : (n : ℕ) (f g : ℕ → A) → ((i : ℕ) → f i ≡ g i) → tabulate n f ≡ tabulate n g
  unfolding tabulate
  tabulate_cong zero f g h = refl
  tabulate_cong (suc n) f g h = rw (h 0, tabulate_cong n (λ i. f (suc i)) (λ i. g (suc i)) (λ i. h (suc i)))

  pub tabulate_pad : (n m : ℕ) (v : List A) (d : A) → n ≤ m → tabulate n (λ i. get_or v i d) ≡ take n (v ++ replicate m d)
  unfolding tabulate
  tabulate_pad zero m v d h = refl
  tabulate_pad (suc n) zero v d h = absurd (not-suc-le-zero h)
  tabulate_pad (suc n) (suc m) [] d h = ap (λ (r : List A). d ∷ r) (tabulate_pad n m [] d (le_of_suc-le-suc h))
  tabulate_pad (suc n) (suc m) (x ∷ v) d h = ap (λ (r : List A). x ∷ r) (tabulate_pad n (suc m) v d (omega arith))

  pub tabulate_front : (n : ℕ) (v : List A) (d : A) → n ≤ length v → tabulate n (λ i. get_or v i d) ≡ take n v
  tabulate_front n v d h = tabulate_pad n n v d (omega arith) ∙ take-append-le n v (replicate n d) h

  -- the first elements are what was stored
  pub take-tabulate : (n : ℕ) (v : List A) (d : A) → length v ≤ n → take (length v) (tabulate n (λ i. get_or v i d)) ≡ v
  unfolding tabulate
  take-tabulate n [] d h = refl
  take-tabulate zero (x ∷ v) d h = absurd (not-suc-le-zero h)
  take-tabulate (suc n) (x ∷ v) d h = ap (λ (r : List A). x ∷ r) (take-tabulate n v d (le_of_suc-le-suc h))

  -- a table that is d from place n on is its first n elements with d past them
  pub tabulate-clean : (m n k : ℕ) (f : ℕ → A) (d : A) → m ≤ k → ((i : ℕ) → n ≤ i → f i ≡ d) → take m (take n (tabulate m f) ++ replicate k d) ≡ tabulate m f
  unfolding tabulate
  tabulate-clean zero n k f d h z = refl
  tabulate-clean (suc m) n zero f d h z = absurd (not-suc-le-zero h)
  tabulate-clean (suc m) zero (suc k) f d h z =
      rw (z 0 (omega arith)) (ap (λ (r : List A). d ∷ r) (tabulate-clean m zero k (λ i. f (suc i)) d (le_of_suc-le-suc h) (λ i l. z (suc i) (omega arith))))
  tabulate-clean (suc m) (suc n) (suc k) f d h z =
      ap (λ (r : List A). f 0 ∷ r) (tabulate-clean m n (suc k) (λ i. f (suc i)) d (omega arith) (λ i l. z (suc i) (omega arith)))
