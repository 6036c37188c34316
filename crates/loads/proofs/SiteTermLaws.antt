-- The terms of a site by its values, and their bounds where the site passes the check.
use Prim.Native.Nat.{ℕ, ◌+◌, ◌*◌, ◌-◌, ◌/◌, ◌≤◌, min}
use mathlib.Core.Path.{◌≡◌, refl}
use mathlib.Core.List.{List}
use native.Mathlib.Omega.{arith}
use native.Mathlib.Nat.{mul-le-mul}
use lib.Dec.{eqb}
use Rattle.site.specs.Ranges.{depth_range, available_range}
use Rattle.site.specs.Bounds.{Bounds}
use Rattle.site.specs.declared.Site.{Site}
use Rattle.loads.specs.Rounding.{up}
use Rattle.loads.specs.MostTerms.{most_factor, most_weathering, most_available, most_a}
use Rattle.loads.specs.Texture.{texture_of}
use Rattle.loads.specs.Weathering.{class_of, weathering_of, weathering, available_of, available_weathering}
use Rattle.loads.specs.Uptake.{base_in, nitrogen_in, stand_sum, uptake_divisor, nitrogen_uptake, base_demand, base_uptake_of, base_uptake}
use Rattle.loads.specs.Supply.{base_supply, limit_of, aluminium_limit}
use Rattle.site.specs.Kinds.{counted_dioxide}
use lib.IntN.{pos, ◌+ℤ◌, ◌-ℤ◌}
use Rattle.loads.specs.Hydrogen.{hydrogen_of, al_of, bicarbonate_of, level_of, hydrogen, aluminium, bicarbonate, net, greatest_level, critical_leaching}
use Rattle.loads.specs.Nitrogen.{leaching_of, leaching}
use Rattle.loads.specs.Terms.{TermBounds}
use Rattle.loads.specs.SiteTerms.{terms_of}
use Rattle.loads.specs.MaxS.{signed_max_s}
use Rattle.loads.specs.CriticalLoads.{cl_min_n}
use Rattle.loads.proofs.Numbers.{prod, part_le, quotient_le, pick-le}
use Rattle.loads.proofs.Tables.{class_le}
use Rattle.loads.proofs.TemperatureLaws.{site_factor_le}
use Rattle.loads.specs.Temperature.{temperature_factor}
use Rattle.loads.proofs.TextureLaws.{texture_between}
use Rattle.loads.proofs.DenitrifiedLaws.{undenitrified-pos, undenitrified_most}

module _ (list : List ℕ) (s : Site) where
  pub weathering_is : weathering s ≡ weathering_of s.parent s.clay s.sand s.depth (temperature_factor s)
  unfolding weathering
  weathering_is = refl

  pub available_is : available_weathering s ≡ available_of (weathering s) s.available
  unfolding available_weathering
  available_is = refl

  pub demand_is : base_demand list s ≡ (stand_sum (base_in list) s.stand.entries s.stand.count + (uptake_divisor - 1)) / uptake_divisor
  unfolding base_demand up
  demand_is = refl

  pub uptake_is : base_uptake list s ≡ base_uptake_of (base_demand list s) (s.base_deposition + available_weathering s) s.percolation
  unfolding base_uptake
  uptake_is = refl

  pub uptake_min : base_uptake list s ≡ min (base_demand list s) (s.base_deposition + available_weathering s - up s.percolation 10)
  unfolding base_uptake base_uptake_of
  uptake_min = refl

  pub supply_is : (terms_of list s).supply ≡ s.base_deposition + weathering s - base_uptake list s
  unfolding terms_of base_supply
  supply_is = refl

  pub limit_is : (terms_of list s).A ≡ limit_of (s.base_deposition + available_weathering s - base_uptake list s) s.ratio
  unfolding terms_of aluminium_limit
  limit_is = refl

  pub leaching_is : (terms_of list s).L ≡ leaching_of s.percolation s.leachate
  unfolding terms_of leaching
  leaching_is = refl

  -- CLmaxS and CLminN by plain numbers
  pub signed_max_s_plain :
      let h = level_of s.percolation s.gibbsite (terms_of list s).A s.ceiling in
      signed_max_s (terms_of list s)
      ≡ pos (terms_of list s).supply +ℤ (pos (hydrogen_of s.percolation h + al_of s.percolation s.gibbsite h) -ℤ pos (bicarbonate_of s.percolation (counted_dioxide s) h))
  unfolding terms_of signed_max_s critical_leaching net hydrogen aluminium bicarbonate greatest_level
  signed_max_s_plain = refl

  pub cl_min_n_plain : cl_min_n (terms_of list s) ≡ stand_sum (nitrogen_in list) s.stand.entries s.stand.count / uptake_divisor + s.immobilisation
  unfolding terms_of cl_min_n nitrogen_uptake
  cl_min_n_plain = refl

-- the parts behind the base supply and the aluminium limit
pub record PartBounds (list : List ℕ) (s : Site) : Type 0 where
  pub weathering_le : weathering s ≤ most_weathering
  pub available_part : available_weathering s ≤ weathering s
  pub available_le : available_weathering s ≤ most_available
  -- B + w − Bu and B + W − Bu are not cut off
  pub uptake_part : base_uptake list s ≤ s.base_deposition + available_weathering s
  pub supply_part : base_uptake list s ≤ s.base_deposition + weathering s

module _ (list : List ℕ) (s : Site) (b : Bounds s) where
  weathered : weathering s ≤ most_weathering
  unfolding weathering weathering_of
  weathered =
      let t = texture_between s.clay s.sand in
      let k = class_le s.parent (texture_of s.clay s.sand) b.parent t.0 t.1 in
      let whole : (500 * class_of s.parent (texture_of s.clay s.sand) - 250) * s.depth ≤ 9750 * depth_range.most = prod 9750 depth_range.most (omega arith) b.depth in
      let warmed = prod (9750 * depth_range.most) most_factor whole (site_factor_le s b) in
      pick-le (eqb s.parent 0) (omega arith) (omega arith)

  available_within : available_weathering s ≤ weathering s
  available_within = rw (available_is list s) (part_le (weathering s) s.available (omega (arith, b.available)))

  pub part_bounds : PartBounds list s
  part_bounds =
      let p : weathering s * s.available ≤ most_weathering * available_range.most = mul-le-mul weathered b.available in
      record {
        weathering_le = weathered;
        available_part = available_within;
        available_le = omega (arith, available_is list s);
        uptake_part = omega (arith, uptake_min list s);
        supply_part = omega (arith, uptake_min list s, available_within);
      }

  limited : (terms_of list s).A ≤ most_a
  limited =
      rw (limit_is list s)
      (quotient_le (1500 * (s.base_deposition + available_weathering s - base_uptake list s)) s.ratio 100 most_a b.ratio
      (omega (arith, part_bounds.available_le, b.deposition)))

  pub term_bounds : TermBounds (terms_of list s)
  unfolding terms_of
  term_bounds = record {
    supply_le = omega (arith, supply_is list s, weathered, b.deposition);
    A_le = limited;
    Q_le = b.percolation;
    K_le = b.gibbsite;
    H_least = b.ceiling_least;
    H_le = b.ceiling;
    e_least = undenitrified-pos s;
    e_most = undenitrified_most s;
    P_le = b.dioxide;
  }
