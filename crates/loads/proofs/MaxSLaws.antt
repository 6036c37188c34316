-- CLmaxS by the sign of its sum.
use Prim.Native.Nat.{ℕ}
use mathlib.Core.Path.{◌≡◌, refl, sym, ◌∙◌}
use Prim.Native.Nat.{◌≤◌}
use lib.IntN.{ℤ, pos, negsuc}
use lib.Signed.{◌≤ℤ◌, ◌<ℤ◌}
use native.Mathlib.Omega.{arith}
use Rattle.std.proofs.lemmas.Int.{ints}
use Rattle.std.specs.Prelude.{Result, Ok, Err, MatchResult}
use Rattle.site.specs.declared.Rule.{Rule}
use Rattle.site.specs.declared.Rule.TheVariants.{LoadBelowZero}
use Rattle.loads.specs.Terms.{Terms}
use Rattle.loads.specs.MaxS.{sign_rule, signed_max_s, load_rule, cl_max_s, not_negative}

-- a bound of the sum is one of the load
pub not_negative_le : (z : ℤ) (m : ℕ) → z ≤ℤ pos m → not_negative z ≤ m
not_negative_le (pos n) m h = omega (arith, ints)
not_negative_le (negsuc n) m h = omega arith

module _ (t : Terms) where
  -- from zero on it is a load
  pub load_passed : (c : ℕ) → signed_max_s t ≡ pos c → (load_rule t ≡ Ok tt) × (cl_max_s t ≡ c)
  unfolding load_rule cl_max_s
  load_passed c e = (rw e, rw e)

  pub load_broken : (r : Rule) → sign_rule (signed_max_s t) ≡ Err r → load_rule t ≡ Err r
  unfolding load_rule
  load_broken r e = e

  -- and where rule 21 passes, the sum is that load
  pub load_whole : load_rule t ≡ Ok tt → signed_max_s t ≡ pos (cl_max_s t)
  unfolding load_rule cl_max_s
  load_whole = go (signed_max_s t)
    where
      go : (z : ℤ) → sign_rule z ≡ Ok tt → z ≡ pos (not_negative z)
      go (pos n) e = refl
      go (negsuc n) e = cc

  -- it passes or is broken
  pub load_decided {ℓ} : {A : Type ℓ} → (load_rule t ≡ Ok tt → A) → (load_rule t ≡ Err LoadBelowZero → A) → A
  unfolding load_rule
  load_decided {A = A} passed broken = go (signed_max_s t) refl
    where
      go : (z : ℤ) → signed_max_s t ≡ z → A
      go (pos n) e = passed (rw e)
      go (negsuc n) e = broken (rw e)

  -- broken exactly below zero
  pub load_negative : load_rule t ≡ Err LoadBelowZero → signed_max_s t <ℤ pos 0
  unfolding load_rule
  load_negative = go (signed_max_s t)
    where
      go : (z : ℤ) → sign_rule z ≡ Err LoadBelowZero → z <ℤ pos 0
      go (pos n) e = cc
      go (negsuc n) e = omega (arith, ints)

  pub negative_load : signed_max_s t <ℤ pos 0 → load_rule t ≡ Err LoadBelowZero
  unfolding load_rule
  negative_load = go (signed_max_s t)
    where
      go : (z : ℤ) → z <ℤ pos 0 → sign_rule z ≡ Err LoadBelowZero
      go (pos n) l = absurd (omega (arith, ints, l))
      go (negsuc n) l = refl

  -- no other rule can be broken
  pub load_refused : (r : Rule) → load_rule t ≡ Err r → r ≡ LoadBelowZero
  unfolding load_rule
  load_refused r = go (signed_max_s t)
    where
      go : (z : ℤ) → sign_rule z ≡ Err r → r ≡ LoadBelowZero
      go (pos n) e = cc
      go (negsuc n) e = cc

  -- what the code's sum says
  pub by_sum :
      (z : ℤ) → z ≡ signed_max_s t → (r : Result ℕ Rule) → MatchResult r (λ c. z ≡ pos c) (λ rule. sign_rule z ≡ Err rule)
      → MatchResult r (λ c. (load_rule t ≡ Ok tt) × (c ≡ cl_max_s t)) (λ rule. load_rule t ≡ Err rule)
  by_sum z is (Ok c) e = let p = load_passed c (sym is ∙ e) in (p.0, sym p.1)
  by_sum z is (Err rule) e = load_broken rule (rw is at e)
