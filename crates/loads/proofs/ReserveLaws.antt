-- A reserve takes up nothing, whatever the list.
use Prim.Native.Nat.{ℕ}
use mathlib.Core.Path.{◌≡◌}
use mathlib.Core.List.{List}
use native.Mathlib.Omega.{arith}
use native.Mathlib.Nat.{sub-zero}
use Rattle.site.specs.declared.Site.{Site}
use Rattle.site.specs.Reserve.{Reserve}
use Rattle.loads.specs.Uptake.{nitrogen_in, base_in, stand_sum, nitrogen_uptake, base_demand, base_uptake}
use Rattle.loads.specs.SiteTerms.{terms_of}
use Rattle.loads.specs.Reserve.{ReservesTakeUpNothing}
use Rattle.loads.proofs.UptakeLaws.{sum_none}
use Rattle.loads.proofs.SiteTermLaws.{demand_is, uptake_min, supply_is, limit_is}

module _ (list : List ℕ) (s : Site) (r : Reserve s) where
  no_weight : (content_in : ℕ → ℕ) → stand_sum content_in s.stand.entries s.stand.count ≡ 0
  no_weight content_in = rw r (sum_none content_in s.stand.entries)

  no_nitrogen : (terms_of list s).Nu ≡ 0
  unfolding terms_of nitrogen_uptake
  no_nitrogen = omega (arith, no_weight (nitrogen_in list))

  no_demand : base_demand list s ≡ 0
  no_demand = omega (arith, demand_is list s, no_weight (base_in list))

  no_bases : base_uptake list s ≡ 0
  no_bases = omega (arith, uptake_min list s, no_demand)

pub no_uptake : ReservesTakeUpNothing
no_uptake list s r = record {
  nitrogen = no_nitrogen list s r;
  demand = no_demand list s r;
  bases = no_bases list s r;
  supply = omega (arith, supply_is list s, no_bases list s r);
  limit = rw (limit_is list s, no_bases list s r, sub-zero);
}
