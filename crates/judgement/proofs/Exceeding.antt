-- The acid exceedance is 0 exactly in region 0, and never above S + N.
use Prim.Native.Nat.{ℕ, ◌+◌, ◌*◌, ◌-◌, ◌≤◌, ◌<◌}
use mathlib.Core.Path.{◌≡◌, refl}
use mathlib.Core.Logic.{◌↔◌}
use native.Mathlib.Omega.{arith}
use native.Mathlib.Nat.{one-mul, mul-pos, le-div_iff_mul-le}
use Rattle.loads.specs.Rounding.{up}
use Rattle.loads.proofs.Numbers.{up_le}
use Rattle.judgement.specs.declared.Region.TheVariants.{AcidKept}
use Rattle.judgement.specs.Regions.{D, excess, region_of, acid_in, acid_of}
use Rattle.judgement.proofs.RegionLaws.{by_region}
use Rattle.judgement.proofs.NotCutOff.{slope_one, slope_three}

-- a quotient, up, is above 0 where its dividend is
up_pos : (x d : ℕ) → 0 < x → 0 < d → 0 < up x d
unfolding up
up_pos x d h i = (le-div_iff_mul-le i).1 (omega (arith, one-mul d))

module _ (S N C m e : ℕ) (p : 0 < e) where
  zero_there : region_of S N C m e ≡ AcidKept → acid_of S N C m e ≡ 0
  unfolding acid_of acid_in
  zero_there h = rw h

  zero_only : acid_of S N C m e ≡ 0 → region_of S N C m e ≡ AcidKept
  unfolding acid_of acid_in D excess
  zero_only =
      by_region S N C m e (λ r. acid_in r S N C m e ≡ 0 → r ≡ AcidKept)
      (λ v z. refl)
      (λ n g z. absurd (omega arith))
      (λ n v t z. absurd (omega (arith, slope_three S N C m e t)))
      (λ n v t k z.
      let some = up_pos (e * (N - m) - 1000 * C) e (omega (arith, slope_one S N C m e k)) p in
      absurd (omega arith))
      (λ n v t k z.
      let some = up_pos ((1000 + e) * excess S C e (N - m)) (D e) (mul-pos (omega arith) (omega arith)) (omega arith) in
      absurd (omega arith))

  pub zero_iff : (acid_of S N C m e ≡ 0) ↔ (region_of S N C m e ≡ AcidKept)
  zero_iff = (zero_only, zero_there)

  D_pos : 0 < D e
  unfolding D
  D_pos = omega arith

  pub acid_most : acid_of S N C m e ≤ S + N
  unfolding acid_of acid_in
  acid_most =
      by_region S N C m e (λ r. acid_in r S N C m e ≤ S + N)
      (λ v. omega arith)
      (λ n g. omega arith)
      (λ n v t. omega arith)
      (λ n v t k. let most = up_le (e * (N - m) - 1000 * C) e (N - m) p (omega arith) in omega arith)
      (λ n v t k. let most = up_le ((1000 + e) * excess S C e (N - m)) (D e) (S + (N - m)) D_pos (omega arith) in omega arith)
