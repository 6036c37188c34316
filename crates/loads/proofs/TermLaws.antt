-- The loads by the terms, the greatest level, and the bound of CLmaxS: for any terms.
use Prim.Native.Nat.{ℕ, ◌+◌, ◌*◌, ◌/◌, ◌≤◌}
use mathlib.Core.Path.{◌≡◌, refl}
use native.Mathlib.Omega.{arith}
use native.Mathlib.Nat.{mul-le-mul}
use lib.IntN.{pos, ◌+ℤ◌, ◌-ℤ◌}
use lib.Signed.{◌≤ℤ◌}
use Rattle.std.proofs.lemmas.Int.{ints}
use Rattle.std.specs.Prelude.{Ok}
use Rattle.site.specs.Ranges.{ceiling_range}
use Rattle.loads.specs.MostTerms.{most_hydrogen, most_max_s}
use Rattle.loads.specs.Terms.{Terms, TermBounds}
use Rattle.loads.specs.Hydrogen.{hydrogen_of, hydrogen, aluminium, bicarbonate, net, greatest_level, critical_leaching, NetRises}
use Rattle.loads.specs.MaxS.{signed_max_s, load_rule, cl_max_s}
use Rattle.loads.specs.CriticalLoads.{cl_min_n, cl_max_n, cl_nut_n, loads_of}
use Rattle.loads.proofs.LevelLaws.{hydrogen_of_mono, al_of_mono, level_le, level_least, level_allowed, level_greatest}
use Rattle.loads.proofs.NetLaws.{net_is, bicarbonate_falls}
use Rattle.loads.proofs.MaxSLaws.{load_whole, not_negative_le}

module _ (t : Terms) where
  -- CLmaxS before its sign is tested
  pub signed_is :
      signed_max_s t ≡ pos t.supply +ℤ (pos (hydrogen t (greatest_level t) + aluminium t (greatest_level t)) -ℤ pos (bicarbonate t (greatest_level t)))
  unfolding signed_max_s critical_leaching net
  signed_is = refl

  pub signed_sum : signed_max_s t ≡ pos t.supply +ℤ critical_leaching t
  unfolding signed_max_s
  signed_sum = refl

  pub leaching_net : critical_leaching t ≡ net t (greatest_level t)
  unfolding critical_leaching
  leaching_net = refl

  -- and where it is a load: nothing is cut off
  pub cl_max_s_is :
      load_rule t ≡ Ok tt
      → cl_max_s t + bicarbonate t (greatest_level t) ≡ t.supply + (hydrogen t (greatest_level t) + aluminium t (greatest_level t))
  cl_max_s_is p = omega (arith, ints, signed_is, load_whole t p)

  pub cl_min_n_is : cl_min_n t ≡ t.Nu + t.Ni
  unfolding cl_min_n
  cl_min_n_is = refl

  pub cl_nut_n_is : cl_nut_n t ≡ cl_min_n t + 1000 * t.L / t.e
  unfolding cl_nut_n
  cl_nut_n_is = refl

  -- the four loads from the numbers that they rest on
  pub loads_by :
      (C m l e : ℕ) → C ≡ cl_max_s t → m ≡ cl_min_n t → l ≡ t.L → e ≡ t.e
      → record { max_s = C; min_n = m; max_n = m + 1000 * C / e; nut_n = m + 1000 * l / e } ≡ loads_of t
  unfolding loads_of cl_max_n cl_nut_n
  loads_by C m l e acid nitrogen leached undenitrified = rw (acid, nitrogen, leached, undenitrified)

  -- hydrogen and aluminium grow with the level
  pub hydrogen_mono : {i j : ℕ} → i ≤ j → hydrogen t i ≤ hydrogen t j
  unfolding hydrogen
  hydrogen_mono = hydrogen_of_mono t.Q 0

  pub aluminium_mono : {i j : ℕ} → i ≤ j → aluminium t i ≤ aluminium t j
  unfolding aluminium
  aluminium_mono = al_of_mono t.Q t.K

  -- the greatest level is within both critical limits, and no greater level is
  pub greatest_ceiling : greatest_level t ≤ t.H
  unfolding greatest_level
  greatest_ceiling = level_le t.Q t.K t.A t.H

  pub greatest_limit : aluminium t (greatest_level t) ≤ t.A
  unfolding greatest_level aluminium
  greatest_limit = level_allowed t.Q t.K t.A t.H

  pub greatest_of_all : (h : ℕ) → h ≤ t.H → aluminium t h ≤ t.A → h ≤ greatest_level t
  unfolding greatest_level aluminium
  greatest_of_all = level_greatest t.Q t.K t.A t.H

  -- THE NET NEVER FALLS AS h RISES, so the greatest allowed level is the best
  pub net_rises : {i j : ℕ} → 1 ≤ i → i ≤ j → net t i ≤ℤ net t j
  net_rises {i} {j} l h = omega (arith, ints, net_is t i, net_is t j, hydrogen_mono h, aluminium_mono h, bicarbonate_falls t l h)

  pub net_greatest : (h : ℕ) → 1 ≤ h → h ≤ t.H → aluminium t h ≤ t.A → net t h ≤ℤ critical_leaching t
  unfolding critical_leaching
  net_greatest h l c a = net_rises l (greatest_of_all h c a)

  pub net_rises_lem : NetRises t
  net_rises_lem = record { rises = λ i j l h. net_rises l h; most = net_greatest }

  -- so no allowed level brings more than CLmaxS, which the greatest one brings
  pub cl_max_s_greatest :
      load_rule t ≡ Ok tt → (h : ℕ) → 1 ≤ h → h ≤ t.H → aluminium t h ≤ t.A → t.supply + hydrogen t h + aluminium t h ≤ cl_max_s t + bicarbonate t h
  cl_max_s_greatest p h l c a =
      let top = greatest_of_all h c a in
      omega (arith, cl_max_s_is p, hydrogen_mono top, aluminium_mono top, bicarbonate_falls t l top)

  module _ (b : TermBounds t) where
    -- level 1 is allowed
    pub greatest_least : 1 ≤ greatest_level t
    unfolding greatest_level
    greatest_least = level_least b.Q_le b.K_le t.A t.H b.H_least

    leached : hydrogen t (greatest_level t) ≤ most_hydrogen
    unfolding hydrogen hydrogen_of
    leached =
        let h : greatest_level t ≤ ceiling_range.most = omega (arith, greatest_ceiling, b.H_le) in
        let p : t.Q * greatest_level t ≤ 15000000 = mul-le-mul b.Q_le h in
        omega arith

    signed_le : signed_max_s t ≤ℤ pos most_max_s
    signed_le = omega (arith, ints, signed_is, leached, greatest_limit, b.A_le, b.supply_le)

    pub cl_max_s_le : cl_max_s t ≤ most_max_s
    unfolding cl_max_s
    cl_max_s_le = not_negative_le (signed_max_s t) most_max_s signed_le
