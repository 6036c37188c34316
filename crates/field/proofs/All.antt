-- Something of each element of a list.
use mathlib.Core.Path.{◌≡◌}
use mathlib.Core.Bool.{Bool, true}
use mathlib.Core.List.{List, [], ◌∷◌, ◌++◌}
use Prim.Native.Nat.{ℕ, zero, suc, ◌<◌}
use native.Mathlib.Omega.{arith}
use lib.ListN.{length, get_or}
use Rattle.std.specs.List.{list_all}
use Rattle.site.proofs.Tests.{and_l, and_r}

infixr 67 ◌▸◌
pub data All {A : Type 0} (P : A → Type 0) : List A → Type 0 where
  none : All P []
  ◌▸◌ : {x : A} {xs : List A} → P x → All P xs → All P (x ∷ xs)

module _ {A : Type 0} where
  pub all_of : {P : A → Type 0} → ((x : A) → P x) → (xs : List A) → All P xs
  all_of f [] = none
  all_of f (x ∷ xs) = f x ▸ all_of f xs

  -- by a test that is computed over the list
  pub all_by : (test : A → Bool) (xs : List A) → list_all test xs ≡ true → All (λ x. test x ≡ true) xs
  all_by test [] e = none
  all_by test (x ∷ xs) e = and_l (test x) (list_all test xs) e ▸ all_by test xs (and_r (test x) (list_all test xs) e)

  pub map-all : {P Q : A → Type 0} → ((x : A) → P x → Q x) → {xs : List A} → All P xs → All Q xs
  map-all f none = none
  map-all f (p ▸ ps) = f _ p ▸ map-all f ps

  pub zip_all : {P Q R : A → Type 0} → ((x : A) → P x → Q x → R x) → {xs : List A} → All P xs → All Q xs → All R xs
  zip_all f none none = none
  zip_all f (p ▸ ps) (q ▸ qs) = f _ p q ▸ zip_all f ps qs

  pub all_append : {P : A → Type 0} {xs ys : List A} → All P xs → All P ys → All P (xs ++ ys)
  all_append none qs = qs
  all_append (p ▸ ps) qs = p ▸ all_append ps qs

  pub all_at : {P : A → Type 0} {xs : List A} → All P xs → (k : ℕ) (d : A) → k < length xs → P (get_or xs k d)
  all_at none k d h = absurd (omega arith)
  all_at (p ▸ ps) zero d h = p
  all_at (p ▸ ps) (suc k) d h = all_at ps k d (omega arith)
