-- The acid regions and the acid exceedance, on plain numbers: C is CLmaxS, m is CLminN, e the part that is not denitrified.
-- Where n = N − m or v would be below 0, the subtraction of ℕ gives 0; `proofs/NotCutOff.antt` shows that no such value is used.
use Rattle.std.specs.Prelude.{ℕ, ◌+◌, ◌*◌, ◌-◌, ◌≤◌, ◌<◌, ◌&&◌, ◌||◌, ◌⊎◌, leb, ltb}
use Rattle.site.specs.Choice.{pick}
use Rattle.loads.specs.Rounding.{up}
use Rattle.judgement.specs.declared.Region.{Region}
use Rattle.judgement.specs.declared.Region.TheVariants.{AcidKept, NoSulphur, Slope, Corner, SulphurOnly}

abbrev pub region_number : Region → ℕ
region_number AcidKept = 0
region_number NoSulphur = 1
region_number Slope = 2
region_number Corner = 3
region_number SulphurOnly = 4

-- D
unfoldable pub D : ℕ → ℕ
D e = 1000000 + e * e

-- v
unfoldable pub excess : (S C e n : ℕ) → ℕ
excess S C e n = 1000 * S + e * n - 1000 * C

-- the first region that applies; n ≤ 0 is N ≤ m, and v ≤ 0 is written without a subtraction
unfoldable pub region_of : (S N C m e : ℕ) → Region
region_of S N C m e =
    pick (leb S C && (leb N m || leb (1000 * S + e * (N - m)) (1000 * C))) AcidKept
    (pick (leb N m) SulphurOnly
    (pick (ltb ((N - m) * D e) (e * excess S C e (N - m))) Corner
    (pick (ltb (S * D e) (1000 * excess S C e (N - m))) NoSulphur Slope)))

-- The same as conditions, in the order of document 01: where a pair lies in a region, that one's own condition holds and no earlier region applies.
-- Region 0: S ≤ CLmaxS, and n ≤ 0 or v ≤ 0.
pub record Region0 (S N C m e : ℕ) : Type 0 where
  pub sulphur : S ≤ C
  pub nitrogen : (N ≤ m) ⊎ (1000 * S + e * (N - m) ≤ 1000 * C)

pub data Lies (S N C m e : ℕ) : Region → Type 0 where
  region_0 : (own : Region0 S N C m e) → Lies S N C m e AcidKept
  region_4 : (not-0 : Region0 S N C m e → ⊥) (own : N ≤ m) → Lies S N C m e SulphurOnly
  region_3 : (not-0 : Region0 S N C m e → ⊥) (not-4 : m < N) (own : (N - m) * D e < e * excess S C e (N - m)) → Lies S N C m e Corner
  region_1 : (not-0 : Region0 S N C m e → ⊥) (not-4 : m < N) (not-3 : e * excess S C e (N - m) ≤ (N - m) * D e)
      (own : S * D e < 1000 * excess S C e (N - m)) → Lies S N C m e NoSulphur
  region_2 : (not-0 : Region0 S N C m e → ⊥) (not-4 : m < N) (not-3 : e * excess S C e (N - m) ≤ (N - m) * D e)
      (not-1 : 1000 * excess S C e (N - m) ≤ S * D e) → Lies S N C m e Slope

-- the acid exceedance in each region
unfoldable pub acid_in : Region → (S N C m e : ℕ) → ℕ
acid_in AcidKept S N C m e = 0
acid_in SulphurOnly S N C m e = S - C
acid_in Corner S N C m e = (N - m) + S - C
acid_in NoSulphur S N C m e = S + up (e * (N - m) - 1000 * C) e
acid_in Slope S N C m e = up ((1000 + e) * excess S C e (N - m)) (D e)

unfoldable pub acid_of : (S N C m e : ℕ) → ℕ
acid_of S N C m e = acid_in (region_of S N C m e) S N C m e
