-- The terms of document 01 at a site, under its letters. Loads and balances are defined on these alone.
use Rattle.std.specs.Prelude.{ℕ, ◌≤◌}
use Rattle.site.specs.Ranges.{percolation_range, gibbsite_range, ceiling_range, dioxide_range}
use Rattle.loads.specs.MostTerms.{most_supply, most_a}

pub record Terms : Type 0 where
  pub Nu : ℕ  -- nitrogen uptake that the site offers
  pub Ni : ℕ  -- immobilisation that it offers
  pub supply : ℕ  -- B + W − Bu, the base supply
  pub A : ℕ  -- aluminium limit
  pub Q : ℕ  -- percolation
  pub K : ℕ  -- gibbsite constant
  pub H : ℕ  -- hydrogen ceiling
  pub e : ℕ  -- 1000 − d, the part that is not denitrified
  pub L : ℕ  -- acceptable leaching
  pub P : ℕ  -- soil carbon dioxide, 0 where the kind of the record has none

-- what the terms of a site that passes the check keep to
pub record TermBounds (t : Terms) : Type 0 where
  pub supply_le : t.supply ≤ most_supply
  pub A_le : t.A ≤ most_a
  pub Q_le : t.Q ≤ percolation_range.most
  pub K_le : t.K ≤ gibbsite_range.most
  pub H_least : ceiling_range.least ≤ t.H
  pub H_le : t.H ≤ ceiling_range.most
  pub e_least : 1 ≤ t.e
  pub e_most : t.e ≤ 1000
  pub P_le : t.P ≤ dioxide_range.most
