-- Bicarbonate and the net leaching: as h rises the one never rises and the other never falls.
use Prim.Native.Nat.{ℕ, zero, suc, ◌+◌, ◌*◌, ◌≤◌, ◌<◌}
use mathlib.Core.Path.{◌≡◌, refl}
use native.Mathlib.Omega.{arith}
use native.Mathlib.Nat.{mul-le-mul, mul-le-mul_left, le_trans, mul-zero}
use lib.IntN.{pos, ◌-ℤ◌}
use Rattle.site.specs.Ranges.{percolation_range, dioxide_range}
use Rattle.loads.specs.Rounding.{up}
use Rattle.loads.specs.MostTerms.{most_bicarbonate}
use Rattle.loads.specs.Terms.{Terms}
use Rattle.loads.specs.Hydrogen.{bicarbonate_of, bicarbonate, hydrogen, aluminium, net}
use Rattle.loads.proofs.Numbers.{up_le, up_enough}

no_part : up 0 (50 * 0) ≡ 0
unfolding up
no_part = refl

-- a quotient, up, falls as its divisor grows
pub up_falls : (n d d' : ℕ) → 0 < d → d ≤ d' → up n d' ≤ up n d
up_falls n d d' p h = up_le n d' (up n d) (omega arith) (le_trans (up_enough n d p) (mul-le-mul_left (up n d) h))

module _ (q p : ℕ) where
  pub bicarbonate_of_falls : {i j : ℕ} → 1 ≤ i → i ≤ j → bicarbonate_of q p j ≤ bicarbonate_of q p i
  unfolding bicarbonate_of
  bicarbonate_of_falls {i} {j} l h = up_falls (q * p) (50 * i) (50 * j) (omega arith) (omega arith)

  pub bicarbonate_le : q ≤ percolation_range.most → p ≤ dioxide_range.most → (h : ℕ) → 1 ≤ h → bicarbonate_of q p h ≤ most_bicarbonate
  unfolding bicarbonate_of
  bicarbonate_le a b h l =
      let e : q * p ≤ 15000000 = mul-le-mul a b in
      up_le (q * p) (50 * h) most_bicarbonate (omega arith) (omega arith)

-- without carbon dioxide there is none, at any level
pub no_bicarbonate : (q p h : ℕ) → p ≡ 0 → bicarbonate_of q p h ≡ 0
unfolding bicarbonate_of
no_bicarbonate q p zero e = let none : q * p ≡ 0 = rw e (mul-zero q) in rw none no_part
no_bicarbonate q p (suc h) e =
    let none : q * p ≡ 0 = rw e (mul-zero q) in
    let least = up_le (q * p) (50 * suc h) 0 (omega arith) (omega arith) in omega arith

module _ (t : Terms) where
  pub net_is : (h : ℕ) → net t h ≡ pos (hydrogen t h + aluminium t h) -ℤ pos (bicarbonate t h)
  unfolding net
  net_is h = refl

  pub bicarbonate_falls : {i j : ℕ} → 1 ≤ i → i ≤ j → bicarbonate t j ≤ bicarbonate t i
  unfolding bicarbonate
  bicarbonate_falls = bicarbonate_of_falls t.Q t.P
