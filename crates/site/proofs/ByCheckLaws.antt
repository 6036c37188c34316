-- What an answer by a check says of the check, and what its values are.
use Prim.Native.Nat.{ℕ}
use mathlib.Core.Path.{◌≡◌, refl}
use mathlib.Core.List.{List}
use Rattle.std.specs.Prelude.{Result, Ok, Err}
use Rattle.site.specs.declared.Refusal.{Refusal}
use Rattle.site.specs.declared.Rule.{Rule}
use Rattle.site.specs.Refusal.{Checked, and_then, unless, refusal_values, values_if}

module _ {A : Type 0} where
  pub given_by_lem : (c : Checked) (x y : A) → and_then c (Ok x) ≡ Ok y → (c ≡ Ok tt) × (y ≡ x)
  unfolding and_then
  given_by_lem (Ok tt) x y e = (refl, cc)
  given_by_lem (Err r) x y e = cc

  pub refused_by : (c : Checked) (x : A) (r : Rule) → and_then c (Ok x) ≡ Err r → c ≡ Err r
  unfolding and_then
  refused_by (Ok tt) x r e = cc
  refused_by (Err k) x r e = cc

  pub then_assoc : (a b : Checked) (c : Result A Rule) → and_then (and_then a b) c ≡ and_then a (and_then b c)
  unfolding and_then
  then_assoc (Ok tt) b c = refl
  then_assoc (Err r) b c = refl

  pub then_ok : (c : Checked) (q : Result A Rule) {x : A} → and_then c q ≡ Ok x → (c ≡ Ok tt) × (q ≡ Ok x)
  unfolding and_then
  then_ok (Ok tt) q e = (refl, e)
  then_ok (Err r) q e = cc

  pub unless_ok : (c : Checked) (at : ℕ) (q : Result A Refusal) {x : A} → unless c at q ≡ Ok x → (c ≡ Ok tt) × (q ≡ Ok x)
  unfolding unless
  unless_ok (Ok tt) at q e = (refl, e)
  unless_ok (Err r) at q e = cc

  -- the values of each case give those of the answer
  pub values_by :
      (values : Result A Rule → List ℕ) (of : A → List ℕ) → ((x : A) → values (Ok x) ≡ of x) → ((r : Rule) → values (Err r) ≡ refusal_values r)
      → (c : Checked) (x : A) → values (and_then c (Ok x)) ≡ values_if c (of x)
  unfolding and_then values_if
  values_by values of g f (Ok tt) x = g x
  values_by values of g f (Err r) x = f r
