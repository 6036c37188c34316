-- No subtraction of the regions and exceedances is cut off where its value is used: there the subtrahend is not the larger one.
-- (The nutrient exceedance is cut off at 0, as document 01 has it.)
use Prim.Native.Nat.{ℕ, ◌+◌, ◌*◌, ◌-◌, ◌≤◌, ◌<◌}
use mathlib.Core.Logic.{⊎_elim}
use native.Mathlib.Omega.{arith}
use native.Mathlib.Nat.{mul-le-mul_left}
use Rattle.site.proofs.Tests.{le_or_lt}
use Rattle.judgement.specs.declared.Region.TheVariants.{NoSulphur, Slope, Corner, SulphurOnly}
use Rattle.judgement.specs.Regions.{D, excess, Lies, region_1, region_2, region_3, region_4}
use Rattle.judgement.proofs.RegionLaws.{rest_zero, not_kept}

module _ (S N C m e : ℕ) where
  -- e × n − 1000 × CLmaxS, where region 1's test holds
  pub slope_one : S * D e < 1000 * excess S C e (N - m) → 1000 * C < e * (N - m)
  unfolding D excess
  slope_one t = omega arith

  -- S − CLmaxS, where region 3's test holds
  pub slope_three : (N - m) * D e < e * excess S C e (N - m) → C < S
  unfolding D excess
  slope_three t =
      ⊎_elim
      (λ l.
      let n = N - m in
      let less : e * (1000 * S + e * n - 1000 * C) ≤ e * (e * n) = mul-le-mul_left e (omega arith) in
      absurd (omega arith))
      (λ g. g)
      (le_or_lt S C)

module _ {S N C m e : ℕ} where
  -- region 4: S − CLmaxS
  pub in_four : Lies S N C m e SulphurOnly → C ≤ S
  in_four (region_4 out own) = omega (arith, not_kept S N C m e out, rest_zero S N C m e own)

  -- region 3: n and n + S − CLmaxS; v, in its test
  pub in_three : Lies S N C m e Corner → (m ≤ N) × (C ≤ (N - m) + S) × (1000 * C ≤ 1000 * S + e * (N - m))
  in_three (region_3 out n own) = (omega arith, omega (arith, slope_three S N C m e own), omega (arith, not_kept S N C m e out))

  -- region 1: n and e × n − 1000 × CLmaxS; v, in its test
  pub in_one : Lies S N C m e NoSulphur → (m ≤ N) × (1000 * C ≤ e * (N - m)) × (1000 * C ≤ 1000 * S + e * (N - m))
  in_one (region_1 out n t own) = (omega arith, omega (arith, slope_one S N C m e own), omega (arith, not_kept S N C m e out))

  -- region 2: n and v
  pub in_two : Lies S N C m e Slope → (m ≤ N) × (1000 * C ≤ 1000 * S + e * (N - m))
  in_two (region_2 out n t k) = (omega arith, omega (arith, not_kept S N C m e out))
