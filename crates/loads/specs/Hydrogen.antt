-- The hydrogen level: whole tenths of meq per cubic metre, from 1, and what is leached there.
use Rattle.std.specs.Prelude.{ℕ, zero, suc, ◌+◌, ◌*◌, ◌/◌, ◌^◌, ◌≤◌, Bool, leb, ℤ, pos, ◌-ℤ◌, ◌≤ℤ◌}
use Rattle.site.specs.Choice.{pick}
use Rattle.site.specs.Ranges.{percolation_range, gibbsite_range, ceiling_range}
use Rattle.loads.specs.Rounding.{up}
use Rattle.loads.specs.Terms.{Terms}

-- percolation, gibbsite constant and a hydrogen ceiling keep to their ranges
pub record Levels (q k ceiling : ℕ) : Type 0 where
  pub percolation : q ≤ percolation_range.most
  pub gibbsite : k ≤ gibbsite_range.most
  pub least : ceiling_range.least ≤ ceiling
  pub level : ceiling ≤ ceiling_range.most

-- hydrogen that percolation q leaches at the level h
unfoldable pub hydrogen_of : (q h : ℕ) → ℕ
hydrogen_of q h = q * h / 1000

-- al(h), of percolation q and gibbsite constant k
unfoldable pub al_of : (q k h : ℕ) → ℕ
al_of q k h = q * k * h ^ 3 / 10 ^ 12

-- bicarbonate that percolation q leaches at the level h, of soil carbon dioxide p
unfoldable pub bicarbonate_of : (q p h : ℕ) → ℕ
bicarbonate_of q p h = up (q * p) (50 * h)

-- the greatest number from 1 to n that passes a test, and 0 where none does
unfoldable pub greatest_where : (ℕ → Bool) → ℕ → ℕ
greatest_where test zero = 0
greatest_where test (suc n) = let below = greatest_where test n in pick (test (suc n)) (suc n) below

-- al(h) is at most the limit
abbrev pub within_limit : (q k limit h : ℕ) → Bool
within_limit q k limit h = leb (al_of q k h) limit

-- the greatest allowed level: from 1 to the ceiling, and al(h) at most the limit; level 1 is always allowed, since al(1) is 0
unfoldable pub level_of : (q k limit ceiling : ℕ) → ℕ
level_of q k limit ceiling = greatest_where (within_limit q k limit) ceiling

-- the same with the terms of a site
unfoldable pub hydrogen : Terms → ℕ → ℕ
hydrogen t h = hydrogen_of t.Q h

unfoldable pub aluminium : Terms → ℕ → ℕ
aluminium t h = al_of t.Q t.K h

unfoldable pub greatest_level : Terms → ℕ
greatest_level t = level_of t.Q t.K t.A t.H

unfoldable pub bicarbonate : Terms → ℕ → ℕ
bicarbonate t h = bicarbonate_of t.Q t.P h

-- the net leaching: hydrogen plus aluminium less bicarbonate, which may be below zero
unfoldable pub net : Terms → ℕ → ℤ
net t h = pos (hydrogen t h + aluminium t h) -ℤ pos (bicarbonate t h)

-- M
unfoldable pub critical_leaching : Terms → ℤ
critical_leaching t = net t (greatest_level t)

-- as h rises from 1 the net never falls, so no allowed level leaches more than M
pub record NetRises (t : Terms) : Type 0 where
  pub rises : (i j : ℕ) → 1 ≤ i → i ≤ j → net t i ≤ℤ net t j
  pub most : (h : ℕ) → 1 ≤ h → h ≤ t.H → aluminium t h ≤ t.A → net t h ≤ℤ critical_leaching t
