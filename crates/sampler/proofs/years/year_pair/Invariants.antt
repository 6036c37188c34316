-- The sums so far, and that they and the months that are left give the year's answer.
use Rattle.std.proofs.Common.{◌≡◌, ◌*◌, ◌≤◌}
use Rattle.sampler.specs.Micrograms.{most_micrograms}
use Rattle.sampler.specs.MonthRules.{most_rain}
use Rattle.sampler.specs.YearPair.{year_of}
use Rattle.sampler.proofs.YearLaws.{onward}
use Rattle.sampler.proofs.years.year_pair.Given as goal

abbrev pub invariant-loop-i : goal.invariant-loop-i
invariant-loop-i l =
    (l.sum.sulphur ≤ most_rain * most_micrograms * l.i-counter)
    × (l.sum.nitrogen ≤ most_rain * (2 * most_micrograms) * l.i-counter)
    × (year_of l.fn.months ≡ onward l.fn.months l.i-counter l.sum)
