-- The verdict on a pair S, N, on the terms of a site.
use Rattle.std.specs.Prelude.{ℕ, ◌-◌, ◌&&◌, List, [], ◌∷◌, eqb}
use Rattle.site.specs.Choice.{pick}
use Rattle.loads.specs.Terms.{Terms}
use Rattle.loads.specs.MaxS.{cl_max_s}
use Rattle.loads.specs.CriticalLoads.{cl_min_n, cl_nut_n}
use Rattle.judgement.specs.declared.Region.{Region}
use Rattle.judgement.specs.declared.Verdict.{Verdict}
use Rattle.judgement.specs.declared.Verdict.TheVariants.{Within, Over}
use Rattle.judgement.specs.Regions.{region_number, region_of, acid_of}

unfoldable pub region : Terms → (S N : ℕ) → Region
region t S N = region_of S N (cl_max_s t) (cl_min_n t) t.e

unfoldable pub acid_exceedance : Terms → (S N : ℕ) → ℕ
acid_exceedance t S N = acid_of S N (cl_max_s t) (cl_min_n t) t.e

-- at least 0, as the subtraction of ℕ gives
unfoldable pub nutrient_exceedance : Terms → (N : ℕ) → ℕ
nutrient_exceedance t N = N - cl_nut_n t

-- within needs region 0 and nutrient exceedance 0
unfoldable pub verdict_of : Region → (acid nutrient : ℕ) → Verdict
verdict_of r acid nutrient = pick (eqb (region_number r) 0 && eqb nutrient 0) Within (Over r acid nutrient)

unfoldable pub verdict : Terms → (S N : ℕ) → Verdict
verdict t S N = verdict_of (region t S N) (acid_exceedance t S N) (nutrient_exceedance t N)

-- region, acid and nutrient exceedance of each case
unfoldable pub verdict_numbers : Verdict → List ℕ
verdict_numbers Within = 0 ∷ 0 ∷ 0 ∷ []
verdict_numbers (Over r acid nutrient) = region_number r ∷ acid ∷ nutrient ∷ []

-- `within` and `over`
abbrev pub within : List ℕ
within = 119 ∷ 105 ∷ 116 ∷ 104 ∷ 105 ∷ 110 ∷ []

abbrev pub over : List ℕ
over = 111 ∷ 118 ∷ 101 ∷ 114 ∷ []

unfoldable pub verdict_word : Verdict → List ℕ
verdict_word Within = within
verdict_word (Over r acid nutrient) = over
