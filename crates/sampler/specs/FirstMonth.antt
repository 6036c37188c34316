-- What an answer for a year says of its months, month by month.
use Rattle.std.specs.Prelude.{ℕ, ◌<◌, ◌≤◌, ◌≡◌, ◌⊎◌, List, length, get_or, sum_by, Ok, Err}
use Rattle.site.specs.Ranges.{deposition_range}
use Rattle.site.specs.declared.Rule.TheVariants.{PairTooLarge}
use Rattle.site.specs.declared.Refusal.{Refusal}
use Rattle.loads.specs.Rounding.{up}
use Rattle.sampler.specs.MonthRules.{month_rule, sulphur_of, nitrogen_of}
use Rattle.sampler.specs.declared.Month.{Month}
use Rattle.sampler.specs.declared.Pair.{Pair}

-- the first n months break no rule; d stands past the end, and is never looked at
abbrev pub Pass : List Month → ℕ → Type 0
Pass ms n = (k : ℕ) → k < n → (d : Month) → month_rule (get_or ms k d) ≡ Ok tt

-- a refusal by a month: those before it pass, and its own first broken rule is given
pub record ByMonth (ms : List Month) (r : Refusal) : Type 0 where
  pub inside : r.at < length ms
  pub before : Pass ms r.at
  pub broken : (d : Month) → month_rule (get_or ms r.at d) ≡ Err r.rule

-- a refusal by the year: all months pass, and S or N is too large
pub record ByYear (ms : List Month) (r : Refusal) : Type 0 where
  pub before : Pass ms (length ms)
  pub is_14 : r.rule ≡ PairTooLarge
  pub at_12 : r.at ≡ 12
  pub large : (deposition_range.most < up (sum_by sulphur_of ms) 1600) ⊎ (deposition_range.most < up (sum_by nitrogen_of ms) 1400)

-- a pair: all months pass, and neither is too large
pub record IsPair (ms : List Month) (p : Pair) : Type 0 where
  pub before : Pass ms (length ms)
  pub sulphur : p.sulphur ≡ up (sum_by sulphur_of ms) 1600
  pub nitrogen : p.nitrogen ≡ up (sum_by nitrogen_of ms) 1400
  pub most_sulphur : p.sulphur ≤ deposition_range.most
  pub most_nitrogen : p.nitrogen ≤ deposition_range.most
