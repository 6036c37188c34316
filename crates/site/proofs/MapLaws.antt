-- Laws of `map`.
use Prim.Native.Nat.{ℕ, zero, suc, ◌<◌}
use mathlib.Core.Path.{◌≡◌, refl, ap}
use mathlib.Core.List.{List, [], ◌∷◌, ◌++◌, map}
use native.Mathlib.Omega.{arith}
use lib.ListN.{length, get_or}

module _ {A B : Type 0} (f : A → B) where
  pub map-append : (xs ys : List A) → map f (xs ++ ys) ≡ map f xs ++ map f ys
  map-append [] ys = refl
  map-append (x ∷ xs) ys = ap (λ (l : List B). f x ∷ l) (map-append xs ys)

  -- within the list, whatever stands past it
  pub get_d_map : (xs : List A) (k : ℕ) (d : A) (e : B) → k < length xs → get_or (map f xs) k e ≡ f (get_or xs k d)
  get_d_map [] k d e h = absurd (omega arith)
  get_d_map (x ∷ xs) zero d e h = refl
  get_d_map (x ∷ xs) (suc k) d e h = get_d_map xs k d e (omega arith)

pub map_id : {A : Type 0} (xs : List A) → map (λ (x : A). x) xs ≡ xs
map_id [] = refl
map_id {A} (x ∷ xs) = ap (λ (l : List A). x ∷ l) (map_id xs)
