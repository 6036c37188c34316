-- Twelve months in 204 bytes, 17 for each: the rain in two bytes; then for each of the three readings its case in one byte, 0 measured, 1 below, 2 missing,
-- and the 32 bits of its float. High bytes come first. Another case byte counts as missing, and past the end stand zeros.
use Rattle.std.specs.Prelude.{ℕ, ◌+◌, ◌*◌, List, eqb, get_or, Float}
use Rattle.std.specs.Float.{binary32}
use Rattle.std.specs.Float.Ieee.{of_bits}
use Rattle.numbers.specs.TwoBytes.{word_at}
use Rattle.site.specs.Bytes.{tabulate}
use Rattle.site.specs.Choice.{pick}
use Rattle.sampler.specs.declared.Reading.{Reading}
use Rattle.sampler.specs.declared.Reading.TheVariants.{Measured, Below, Missing}
use Rattle.sampler.specs.declared.Month.{Month}

-- the float whose four bytes start at place i
unfoldable pub float_at : List ℕ → ℕ → Float
float_at b i = of_bits binary32 (65536 * word_at b i + word_at b (i + 2))

abbrev pub reading_by : (case : ℕ) → Float → Reading
reading_by case x = pick (eqb case 0) (Measured x) (pick (eqb case 1) (Below x) Missing)

-- the reading whose five bytes start at place i
unfoldable pub reading_at : List ℕ → ℕ → Reading
reading_at b i = reading_by (get_or b i 0) (float_at b (i + 1))

-- the month whose 17 bytes start at place i
unfoldable pub month_at : List ℕ → ℕ → Month
month_at b i = record { rain = word_at b i; sulphate = reading_at b (i + 2); nitrate = reading_at b (i + 7); ammonium = reading_at b (i + 12) }

abbrev pub months_in : List ℕ → List Month
months_in b = tabulate 12 (λ k. month_at b (17 * k))
