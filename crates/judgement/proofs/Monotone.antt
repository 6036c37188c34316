-- The pairs of one site: with less deposition within stays within, and neither exceedance rises.
use Prim.Native.Nat.{ℕ, ◌*◌, ◌-◌, ◌≤◌}
use mathlib.Core.Path.{◌≡◌}
use native.Mathlib.Omega.{arith}
use native.Mathlib.Nat.{mul-le-mul_left, le_trans}
use Rattle.loads.specs.Terms.{Terms, TermBounds}
use Rattle.std.specs.Prelude.{Ok}
use Rattle.loads.specs.MaxS.{load_rule, cl_max_s}
use Rattle.loads.specs.CriticalLoads.{cl_min_n}
use Rattle.judgement.specs.declared.Verdict.TheVariants.{Within}
use Rattle.judgement.specs.Verdicts.{region, acid_exceedance, nutrient_exceedance, verdict}
use Rattle.judgement.proofs.RegionLaws.{zero_closes, closes_zero}
use Rattle.judgement.proofs.Least.{acid_mono}
use Rattle.judgement.proofs.Demand3.{nutrient_iff, closes_judged, judged_closes, within_iff_closes}

module _ (t : Terms) (b : TermBounds t) {S N S' N' : ℕ} (less_s : S' ≤ S) (less_n : N' ≤ N) where
  pub within_less : load_rule t ≡ Ok tt → verdict t S N ≡ Within → verdict t S' N' ≡ Within
  unfolding region
  within_less passed h =
      let p = closes_judged t b passed S N ((within_iff_closes t b passed S N).0 h) in
      let step : t.e * (N' - cl_min_n t) ≤ t.e * (N - cl_min_n t) = mul-le-mul_left t.e (omega arith) in
      (within_iff_closes t b passed S' N').1
      (judged_closes t b passed S' N'
      (closes_zero S' N' (cl_max_s t) (cl_min_n t) t.e (omega (arith, step, zero_closes S N (cl_max_s t) (cl_min_n t) t.e p.0)))
      ((nutrient_iff t b N').1 (le_trans step ((nutrient_iff t b N).0 p.1))))

  pub acid_less : acid_exceedance t S' N' ≤ acid_exceedance t S N
  unfolding acid_exceedance
  acid_less = acid_mono (cl_max_s t) (cl_min_n t) t.e b.e_least b.e_most less_s less_n

  pub nutrient_less : nutrient_exceedance t N' ≤ nutrient_exceedance t N
  unfolding nutrient_exceedance
  nutrient_less = omega arith
