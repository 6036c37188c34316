-- Floats by their bits, and years: a computed proof of each table that the definitions give its numbers.
use Rattle.std.specs.Prelude.{◌≡◌, refl, map}
use Rattle.std.specs.Float.{binary32}
use Rattle.std.specs.Float.Ieee.{of_bits}
use Rattle.site.specs.Refusal.{unless, and_then}
use Rattle.loads.specs.Rounding.{up}
use Rattle.sampler.specs.Micrograms.{concentration_of}
use Rattle.sampler.specs.MonthRules.{month_rule, sulphur_of, nitrogen_of}
use Rattle.sampler.specs.YearPair.{year_of}
use Rattle.sampler.specs.Cases.{given_by, FloatCase, floats, year_numbers, YearCase, years}

floats_agree : map (λ (c : FloatCase). given_by (concentration_of (of_bits binary32 c.bits))) floats ≡ map (λ (c : FloatCase). c.given) floats
unfolding floats concentration_of of_bits up
floats_agree = refl

years_agree : map (λ (c : YearCase). year_numbers (year_of c.months)) years ≡ map (λ (c : YearCase). c.given) years
unfolding years year_of unless month_rule and_then sulphur_of nitrogen_of concentration_of of_bits up
years_agree = refl
