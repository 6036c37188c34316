-- What a check that passed says.
use mathlib.Core.Path.{◌≡◌, refl}
use mathlib.Core.Bool.{Bool, true, false}
use Prim.Native.Nat.{ℕ, ◌≤◌}
use native.Mathlib.Omega.{arith}
use lib.Dec.{leb}
use borrow.Author.Tests.{leb-true}
use Rattle.site.specs.declared.Rule.{Rule}
use Rattle.site.specs.declared.Rule.TheVariants.{OutOfRange}
use Rattle.site.specs.Refusal.{Checked, and_then}
use Rattle.std.specs.Prelude.{Ok, Err}
use Rattle.site.specs.Choice.{pick}
use Rattle.site.specs.declared.ranges.Range.{Range}
use Rattle.site.specs.Values.{ranged, inside, between}
use Rattle.site.proofs.Tests.{and_l, and_r}

clash : (r : Rule) → ◌≡◌ {A = Checked} (Err r) (Ok tt) → ⊥
clash r e = let z : ◌≡◌ {A = ℕ} 0 1 = cc in omega arith

pub pass_else : (b : Bool) (r : Rule) (x : Checked) → pick b (Err r) x ≡ Ok tt → (b ≡ false) × (x ≡ Ok tt)
pass_else true r x e = absurd (clash r e)
pass_else false r x e = (refl, e)

pub pass_then : (b : Bool) (r : Rule) (x : Checked) → pick b x (Err r) ≡ Ok tt → (b ≡ true) × (x ≡ Ok tt)
pass_then true r x e = (refl, e)
pass_then false r x e = absurd (clash r e)

pub both_passed : (a b : Checked) → and_then a b ≡ Ok tt → (a ≡ Ok tt) × (b ≡ Ok tt)
unfolding and_then
both_passed (Ok tt) b e = (refl, e)
both_passed (Err r) b e = absurd (clash r e)

pub ranged_passed : (b : Bool) → ranged b ≡ Ok tt → b ≡ true
ranged_passed b e = (pass_then b OutOfRange (Ok tt) e).0

pub inside_both : (r : Range) (x : ℕ) → inside r x ≡ true → (r.least ≤ x) × (x ≤ r.most)
inside_both r x h =
    let from = leb r.least x in
    let to = leb x r.most in
    (leb-true r.least x (and_l from to h), leb-true x r.most (and_r from to h))

pub between_passed : (r : Range) (x : ℕ) → between r x ≡ Ok tt → (r.least ≤ x) × (x ≤ r.most)
unfolding between
between_passed r x e = inside_both r x (ranged_passed _ e)
