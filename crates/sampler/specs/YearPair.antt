-- The pair S, N of a year: the sums over its months, each divided once, up.
use Rattle.std.specs.Prelude.{ℕ, suc, ◌&&◌, List, [], ◌∷◌, sum_by, leb, Result, Ok, Err}
use Rattle.site.specs.Choice.{pick}
use Rattle.site.specs.Ranges.{deposition_range}
use Rattle.site.specs.declared.Rule.TheVariants.{PairTooLarge}
use Rattle.site.specs.declared.Refusal.{Refusal}
use Rattle.site.specs.Refusal.{unless}
use Rattle.loads.specs.Rounding.{up}
use Rattle.sampler.specs.MonthRules.{month_rule, sulphur_of, nitrogen_of}
use Rattle.sampler.specs.declared.Month.{Month}
use Rattle.sampler.specs.declared.Pair.{Pair}

-- rule 14, always at 12
abbrev pub too_large : Refusal
too_large = record { rule = PairTooLarge; at = 12 }

abbrev pub pair_of : (S N : ℕ) → Result Pair Refusal
pair_of S N = pick (leb S deposition_range.most && leb N deposition_range.most) (Ok (record { sulphur = S; nitrogen = N })) (Err too_large)

-- 1 eq per hectare is 1600 µg of sulphur, or 1400 µg of nitrogen, per square metre
abbrev pub divided_pair : (sulphur nitrogen : ℕ) → Result Pair Refusal
divided_pair s n = pair_of (up s 1600) (up n 1400)

-- the first month that breaks a rule gives the answer, with its index, counted from i; else y
abbrev pub months_checked : ℕ → List Month → Result Pair Refusal → Result Pair Refusal
months_checked i [] y = y
months_checked i (m ∷ ms) y = unless (month_rule m) i (months_checked (suc i) ms y)

unfoldable pub year_of : List Month → Result Pair Refusal
year_of ms = months_checked 0 ms (divided_pair (sum_by sulphur_of ms) (sum_by nitrogen_of ms))
