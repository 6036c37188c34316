-- t, by which weathering depends on temperature, in per mille (document 02, E5).
use Rattle.std.specs.Prelude.{ℕ, zero, suc, ◌+◌, ◌*◌, ◌≤◌, ◌<◌, ◌≡◌, List, [], ◌∷◌, get_or}
use lib.IntN.{ℤ, pos, ◌+ℤ◌, ◌-ℤ◌, ◌*ℤ◌}
use Rattle.site.specs.declared.Site.{Site}
use Rattle.site.specs.Kinds.{counted_temperature}
use Rattle.loads.specs.Fractions.{Fraction, ◌over◌, whole, plus, times, power, factorial, nearest}

-- T, in °C: the bytes 0 to 25 are −5 to 20
abbrev pub degrees : ℕ → ℤ
degrees byte = pos byte -ℤ pos 5

-- x = 3600 × (T − 8) / (281 × (273 + T))
abbrev pub exponent : ℤ → Fraction
exponent T = (pos 3600 *ℤ (T -ℤ pos 8)) over (pos 281 *ℤ (pos 273 +ℤ T))

-- xʲ / j!
abbrev pub summand : Fraction → ℕ → Fraction
summand x j = times (power x j) (pos 1 over pos (factorial j))

-- their sum for j from 0 to n
unfoldable pub series : Fraction → ℕ → Fraction
series x zero = summand x zero
series x (suc n) = plus (series x n) (summand x (suc n))

-- 1000 times the sum for j from 0 to 12
unfoldable pub thousand_sums : ℕ → Fraction
thousand_sums byte = times (whole 1000) (series (exponent (degrees byte)) 12)

-- the rule: t is the whole number nearest to it
unfoldable pub factor_by_rule : ℕ → ℤ
factor_by_rule byte = nearest (thousand_sums byte)

-- what it says, in whole numbers: a fraction x above 0 is a / b, and t − 1/2 ≤ a / b < t + 1/2, all of it 2b times
pub record NearestTo (x : Fraction) (t : ℕ) : Type 0 where
  pub a : ℕ
  pub b : ℕ
  pub fraction : x ≡ pos a over pos b
  pub below : 0 < b
  pub least : 2 * (t * b) ≤ 2 * a + b
  pub most : 2 * a < 2 * (t * b) + b

-- t by the byte, 0 to 25: `factors_are` in `proofs/TemperatureLaws.antt` shows the rule of all 26
abbrev pub factors : List ℕ
factors =
    537 ∷ 565 ∷ 593 ∷ 623 ∷ 654 ∷ 687 ∷ 721 ∷ 756 ∷ 793 ∷ 831 ∷ 871 ∷ 912 ∷ 955 ∷ 1000 ∷ 1046 ∷ 1095 ∷ 1145 ∷ 1197 ∷ 1251 ∷ 1307 ∷ 1365 ∷ 1426 ∷ 1488 ∷ 1553 ∷ 1620 ∷ 1690 ∷ []

abbrev pub factor_by_table : ℕ → ℕ
factor_by_table byte = get_or factors byte 0

-- t of a site: where its kind has no temperature, that of 8 °C, which is 1000
unfoldable pub temperature_factor : Site → ℕ
temperature_factor s = factor_by_table (counted_temperature s)
