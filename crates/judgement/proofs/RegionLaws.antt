-- The acid regions on plain numbers.
use Prim.Native.Nat.{ℕ, ◌+◌, ◌*◌, ◌-◌, ◌≤◌, ◌<◌}
use mathlib.Core.Bool.{false, ◌&&◌, ◌||◌}
use mathlib.Core.Path.{◌≡◌}
use mathlib.Core.Logic.{inr, ⊎_elim}
use native.Mathlib.Omega.{arith}
use native.Mathlib.Nat.{mul-zero}
use borrow.Author.Tests.{le-leb, lt-leb, lt-ltb, le-ltb}
use lib.Dec.{leb}
use Rattle.std.proofs.lemmas.Bool.Decides.{nat_tests}
use Rattle.site.proofs.Tests.{le_or_lt, lt_or_le}
use Rattle.judgement.specs.declared.Region.{Region}
use Rattle.judgement.specs.declared.Region.TheVariants.{AcidKept, NoSulphur, Slope, Corner, SulphurOnly}
use Rattle.judgement.specs.Regions.{D, excess, region_of, Region0, Lies, region_0, region_1, region_2, region_3, region_4}

module _ (S N C m e : ℕ) where
  pub rest_zero : N ≤ m → e * (N - m) ≡ 0
  rest_zero h = let z : N - m ≡ 0 = omega arith in rw (z, mul-zero)

  -- what holds in each region, once: a law on regions goes through here and opens no test
  pub by_region {ℓ} :
      (P : Region → Type ℓ)
      → (1000 * S + e * (N - m) ≤ 1000 * C → P AcidKept)
      → (N ≤ m → C < S → P SulphurOnly)
      → (m < N → 1000 * C < 1000 * S + e * (N - m) → (N - m) * D e < e * excess S C e (N - m) → P Corner)
      → (m < N → 1000 * C < 1000 * S + e * (N - m) → e * excess S C e (N - m) ≤ (N - m) * D e → S * D e < 1000 * excess S C e (N - m) → P NoSulphur)
      → (m < N → 1000 * C < 1000 * S + e * (N - m) → e * excess S C e (N - m) ≤ (N - m) * D e → 1000 * excess S C e (N - m) ≤ S * D e → P Slope)
      → P (region_of S N C m e)
  unfolding region_of
  by_region P p0 p4 p3 p1 p2 = ⊎_elim low high (le_or_lt N m)
    where
      low : N ≤ m → P (region_of S N C m e)
      low n =
          ⊎_elim (λ l. simp (le-leb S C l, le-leb N m n) (p0 (omega (arith, rest_zero n))))
          (λ g. simp (lt-leb S C g, le-leb N m n) (p4 n g))
          (le_or_lt S C)

      out : m < N → 1000 * C < 1000 * S + e * (N - m) → leb S C && (leb N m || leb (1000 * S + e * (N - m)) (1000 * C)) ≡ false → P (region_of S N C m e)
      out n v z =
          rw z (simp (lt-leb N m n)
          (⊎_elim
          (λ (g : (N - m) * D e < e * excess S C e (N - m)). simp (lt-ltb _ _ g) (p3 n v g))
          (λ (l : e * excess S C e (N - m) ≤ (N - m) * D e).
          simp (le-ltb _ _ l)
          (⊎_elim
          (λ (g : S * D e < 1000 * excess S C e (N - m)). simp (lt-ltb _ _ g) (p1 n v l g))
          (λ (k : 1000 * excess S C e (N - m) ≤ S * D e). simp (le-ltb _ _ k) (p2 n v l k))
          (lt_or_le (S * D e) (1000 * excess S C e (N - m)))))
          (lt_or_le ((N - m) * D e) (e * excess S C e (N - m)))))

      high : m < N → P (region_of S N C m e)
      high n =
          ⊎_elim
          (λ v. let l : S ≤ C = omega arith in simp (le-leb S C l, lt-leb N m n, le-leb (1000 * S + e * (N - m)) (1000 * C) v) (p0 v))
          (λ v.
          out n v
          (⊎_elim (λ l. simp (le-leb S C l, lt-leb N m n, lt-leb (1000 * S + e * (N - m)) (1000 * C) v)) (λ g. simp (lt-leb S C g)) (le_or_lt S C)))
          (le_or_lt (1000 * S + e * (N - m)) (1000 * C))

  -- region 0 is where the acid balance closes with all of m taken from N
  pub zero_closes : region_of S N C m e ≡ AcidKept → 1000 * S + e * (N - m) ≤ 1000 * C
  unfolding region_of
  zero_closes q = grind (arith, nat_tests, rest_zero)

  pub closes_zero : 1000 * S + e * (N - m) ≤ 1000 * C → region_of S N C m e ≡ AcidKept
  unfolding region_of
  closes_zero v = grind (arith, nat_tests)

  -- each region by the tests that lead to it
  pub is_four : N ≤ m → C < S → region_of S N C m e ≡ SulphurOnly
  unfolding region_of
  is_four a b = grind (arith, nat_tests)

  module _ (a : m < N) (b : 1000 * C < 1000 * S + e * (N - m)) where
    pub is_three : (N - m) * D e < e * excess S C e (N - m) → region_of S N C m e ≡ Corner
    unfolding region_of
    is_three h = grind (arith, nat_tests)

    pub is_one : e * excess S C e (N - m) ≤ (N - m) * D e → S * D e < 1000 * excess S C e (N - m) → region_of S N C m e ≡ NoSulphur
    unfolding region_of
    is_one h i = grind (arith, nat_tests)

    pub is_two : e * excess S C e (N - m) ≤ (N - m) * D e → 1000 * excess S C e (N - m) ≤ S * D e → region_of S N C m e ≡ Slope
    unfolding region_of
    is_two h i = grind (arith, nat_tests)

  -- region 0's condition is that balance
  kept_closes : Region0 S N C m e → 1000 * S + e * (N - m) ≤ 1000 * C
  kept_closes k = ⊎_elim (λ n. omega (arith, k.sulphur, rest_zero n)) (λ v. v) k.nitrogen

  closes_kept : 1000 * S + e * (N - m) ≤ 1000 * C → Region0 S N C m e
  closes_kept v = record { sulphur = omega arith; nitrogen = inr v }

  -- and where it does not hold
  pub not_kept : (Region0 S N C m e → ⊥) → 1000 * C < 1000 * S + e * (N - m)
  not_kept out = ⊎_elim (λ v. absurd (out (closes_kept v))) (λ v. v) (le_or_lt (1000 * S + e * (N - m)) (1000 * C))

  -- every pair lies in exactly one region
  pub lies_in : Lies S N C m e (region_of S N C m e)
  lies_in =
      by_region (Lies S N C m e) (λ v. region_0 (closes_kept v))
      (λ n g. region_4 (λ k. omega (arith, k.sulphur)) n)
      (λ n v t. region_3 (λ k. omega (arith, kept_closes k)) n t)
      (λ n v t o. region_1 (λ k. omega (arith, kept_closes k)) n t o)
      (λ n v t o. region_2 (λ k. omega (arith, kept_closes k)) n t o)

  pub lies_only : {r : Region} → Lies S N C m e r → region_of S N C m e ≡ r
  lies_only (region_0 own) = closes_zero (kept_closes own)
  lies_only (region_4 out own) = is_four own (omega (arith, not_kept out, rest_zero own))
  lies_only (region_3 out n own) = is_three n (not_kept out) own
  lies_only (region_1 out n t own) = is_one n (not_kept out) t own
  lies_only (region_2 out n t k) = is_two n (not_kept out) t k
