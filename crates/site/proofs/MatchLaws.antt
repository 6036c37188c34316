-- The last arm of a match on the tags a, a + 1, ..: none of them.
use mathlib.Core.Path.{◌≡◌}
use Prim.Native.Nat.{ℕ, zero, suc, ◌+◌, ◌≤◌, ◌<◌}
use native.Mathlib.Omega.{arith}

-- t is none of the n tags from a on
abbrev NoneOf : ℕ → ℕ → ℕ → Type 0
NoneOf a zero t = Unit
NoneOf a (suc n) t = NoneOf a n t × (t ≡ a + n → ⊥)

none_of : (a n t : ℕ) → NoneOf a n t → t < a + n → t < a
none_of a zero t p h = omega arith
none_of a (suc n) t p h = none_of a n t p.0 (omega (arith, p.1))

pub none_below : (n t : ℕ) → NoneOf 1 n t → t < 1 + n → t ≡ 0
none_below n t p h = omega (arith, none_of 1 n t p h)

-- but from a to b there are no others
pub none_left : (a n b t : ℕ) → NoneOf a n t → a ≤ t → t ≤ b → b < a + n → ⊥
none_left a n b t p h k l = omega (arith, none_of a n t p (omega arith))
