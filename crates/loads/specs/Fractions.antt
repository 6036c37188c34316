-- Exact fractions of whole numbers with a sign.
use Rattle.std.specs.Prelude.{ℕ, zero, suc, ◌*◌, ◌/◌}
use lib.IntN.{ℤ, pos, negsuc, neg_ℤ, ◌+ℤ◌, ◌*ℤ◌}

infixl 5 ◌over◌
-- `a over b` is a / b; no fraction here has a 0 below
pub data Fraction : Type 0 where
  ◌over◌ : ℤ → ℤ → Fraction

abbrev pub whole : ℕ → Fraction
whole n = pos n over pos 1

abbrev pub plus : Fraction → Fraction → Fraction
plus (a over b) (c over d) = (a *ℤ d +ℤ c *ℤ b) over (b *ℤ d)

abbrev pub times : Fraction → Fraction → Fraction
times (a over b) (c over d) = (a *ℤ c) over (b *ℤ d)

unfoldable pub power : Fraction → ℕ → Fraction
power x zero = whole 1
power x (suc j) = times (power x j) x

unfoldable pub factorial : ℕ → ℕ
factorial zero = 1
factorial (suc j) = suc j * factorial j

-- a / n, down: `negsuc a` is −(a + 1), and that of it is −(a / n + 1)
abbrev pub down : ℤ → ℕ → ℤ
down (pos a) n = pos (a / n)
down (negsuc a) n = negsuc (a / n)

-- the greatest whole number up to a fraction
abbrev pub floor : Fraction → ℤ
floor (a over (pos n)) = down a n
floor (a over (negsuc n)) = down (neg_ℤ a) (suc n)

-- the whole number nearest, a half going up
abbrev pub nearest : Fraction → ℤ
nearest x = floor (plus x (pos 1 over pos 2))
