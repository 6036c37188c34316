-- The hydrogen level: hydrogen and aluminium grow with it, and the level of the definition is allowed and the greatest allowed.
use Prim.Native.Nat.{ℕ, suc, ◌*◌, ◌^◌, ◌≤◌}
use mathlib.Core.Bool.{true, false}
use mathlib.Core.Path.{◌≡◌}
use native.Mathlib.Omega.{arith}
use native.Mathlib.Nat.{mul-zero, mul-one, div-eq_of_lt, mul-le-mul, mul-le-mul_left, pow-le-pow_left, le_trans}
use borrow.Author.Tests.{le-leb, lt-leb, leb-true, leb-false}
use Rattle.site.specs.Ranges.{ceiling_range, percolation_range, gibbsite_range}
use Rattle.loads.specs.Hydrogen.{hydrogen_of, al_of, within_limit, level_of}
use Rattle.loads.proofs.GreatestLaws.{greatest_le, greatest_passes, greatest_most, greatest_unique}
use Rattle.loads.proofs.Numbers.{div_mono}

module _ (q k : ℕ) where
  pub hydrogen_of_mono : {i j : ℕ} → i ≤ j → hydrogen_of q i ≤ hydrogen_of q j
  unfolding hydrogen_of
  hydrogen_of_mono h = div_mono 1000 (omega arith) (mul-le-mul_left q h)

  pub al_of_mono : {i j : ℕ} → i ≤ j → al_of q k i ≤ al_of q k j
  unfolding al_of
  al_of_mono h = div_mono (10 ^ 12) (omega arith) (mul-le-mul_left (q * k) (pow-le-pow_left h 3))

  pub al_of-zero : al_of q k 0 ≡ 0
  unfolding al_of
  al_of-zero = rw mul-zero

  module _ (limit : ℕ) where
    may_zero : within_limit q k limit 0 ≡ true
    may_zero = le-leb (al_of q k 0) limit (omega (arith, al_of-zero))

    module _ (ceiling : ℕ) where
      pub level_le : level_of q k limit ceiling ≤ ceiling
      unfolding level_of
      level_le = greatest_le (within_limit q k limit) ceiling

      pub level_allowed : al_of q k (level_of q k limit ceiling) ≤ limit
      unfolding level_of
      level_allowed = leb-true _ _ (greatest_passes (within_limit q k limit) may_zero ceiling)

      pub level_greatest : (j : ℕ) → j ≤ ceiling → al_of q k j ≤ limit → j ≤ level_of q k limit ceiling
      unfolding level_of
      level_greatest j h l = greatest_most (within_limit q k limit) ceiling j h (le-leb _ _ l)

      -- a level that is allowed, and whose successor is not or is past the ceiling, is the level of the definition
      pub level_is :
          (g : ℕ) → g ≤ ceiling → within_limit q k limit g ≡ true → (suc g ≤ ceiling → within_limit q k limit (suc g) ≡ false) → level_of q k limit ceiling ≡ g
      unfolding level_of
      level_is g h e next =
          greatest_unique (within_limit q k limit) may_zero ceiling g h e
          (λ j above le. lt-leb (al_of q k j) limit (le_trans (leb-false (al_of q k (suc g)) limit (next (omega arith))) (al_of_mono above)))

-- the product under al(h) fits 64 bits, and so do its parts
pub square_le : {h : ℕ} → h ≤ ceiling_range.most → h * h ≤ 25000000
square_le l = mul-le-mul l l

pub cube_le : {h : ℕ} → h ≤ ceiling_range.most → h ^ 3 ≤ 125000000000
cube_le l = pow-le-pow_left l 3

pub qk_le : {q k : ℕ} → q ≤ percolation_range.most → k ≤ gibbsite_range.most → q * k ≤ 30000000
qk_le = mul-le-mul

pub al_le : {q k h : ℕ} → q ≤ percolation_range.most → k ≤ gibbsite_range.most → h ≤ ceiling_range.most → q * k * h ^ 3 ≤ 3750000000000000000
al_le a b c = mul-le-mul (qk_le a b) (cube_le c)

pub al_of_bound : {q k h : ℕ} → q ≤ percolation_range.most → k ≤ gibbsite_range.most → h ≤ ceiling_range.most → al_of q k h ≤ 3750000
unfolding al_of
al_of_bound a b c = omega (arith, al_le a b c)

-- level 1 brings no aluminium
pub al_of-one : {q k : ℕ} → q ≤ percolation_range.most → k ≤ gibbsite_range.most → al_of q k 1 ≡ 0
unfolding al_of
al_of-one a b = rw mul-one (div-eq_of_lt (omega (arith, qk_le a b)))

-- so the greatest allowed level is at least 1
pub level_least : {q k : ℕ} → q ≤ percolation_range.most → k ≤ gibbsite_range.most → (limit ceiling : ℕ) → 1 ≤ ceiling → 1 ≤ level_of q k limit ceiling
level_least {q} {k} a b limit ceiling c = level_greatest q k limit ceiling 1 c (omega (arith, al_of-one a b))
