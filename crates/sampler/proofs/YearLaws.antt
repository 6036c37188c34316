-- The walk over the months, from the month at place i and the sums before it.
use Prim.Native.Nat.{ℕ, ◌+◌, ◌≤◌, ◌<◌}
use mathlib.Core.Path.{◌≡◌}
use mathlib.Core.List.{List}
use native.Mathlib.Omega.{arith}
use lib.ListN.{length, get_or, drop}
use Rattle.std.proofs.lemmas.Grind.{common_steps}
use Rattle.std.specs.Prelude.{Result, Ok, Err, sum_by}
use Rattle.site.specs.declared.Rule.{Rule}
use Rattle.site.specs.declared.Refusal.{Refusal}
use Rattle.site.specs.Refusal.{unless}
use Rattle.sampler.specs.MonthRules.{month_rule, sulphur_of, nitrogen_of}
use Rattle.sampler.specs.YearPair.{divided_pair, months_checked, year_of}
use Rattle.sampler.specs.declared.Month.{Month}
use Rattle.sampler.specs.declared.Pair.{Pair}
use Rattle.sampler.specs.declared.months.Deposition.{Deposition}

-- what comes of the months from index i on, with the sums before them
abbrev pub onward : List Month → ℕ → Deposition → Result Pair Refusal
onward ms i sum =
    let left = drop i ms in
    months_checked i left (divided_pair (sum.sulphur + sum_by sulphur_of left) (sum.nitrogen + sum_by nitrogen_of left))

pub onward_start : (ms : List Month) → year_of ms ≡ onward ms 0 (record { sulphur = 0; nitrogen = 0 })
unfolding year_of
onward_start ms = grind (arith, common_steps)

module _ (ms : List Month) (i : ℕ) (sum : Deposition) (d : Month) (inside : i < length ms) where
  pub onward_stop : (r : Rule) → month_rule (get_or ms i d) ≡ Err r → onward ms i sum ≡ Err (record { rule = r; at = i })
  unfolding unless
  onward_stop r h = grind (arith, common_steps)

  pub onward_step : month_rule (get_or ms i d) ≡ Ok tt
      → onward ms i sum ≡ onward ms (i + 1) (record { sulphur = sum.sulphur + sulphur_of (get_or ms i d); nitrogen = sum.nitrogen + nitrogen_of (get_or ms i d) })
  unfolding unless
  onward_step h = grind (arith, common_steps)

pub onward_end : (ms : List Month) (i : ℕ) (sum : Deposition) → length ms ≤ i → onward ms i sum ≡ divided_pair sum.sulphur sum.nitrogen
onward_end ms i sum h = grind (arith, common_steps)
