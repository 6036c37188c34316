-- What a month brings at most.
use Prim.Native.Nat.{◌+◌, ◌*◌, ◌≤◌}
use mathlib.Core.Path.{◌≡◌}
use native.Mathlib.Nat.{mul-le-mul}
use native.Mathlib.Omega.{arith}
use borrow.Author.Tests.{leb-true}
use Rattle.std.specs.Prelude.{Ok}
use Rattle.site.proofs.Passing.{both_passed, pass_then}
use Rattle.sampler.specs.Micrograms.{most_micrograms}
use Rattle.sampler.specs.MonthRules.{most_rain, reading_of, micrograms, month_rule, sulphur_of, nitrogen_of}
use Rattle.sampler.specs.declared.Reading.{Reading}
use Rattle.sampler.specs.declared.Reading.TheVariants.{Measured, Below, Missing}
use Rattle.sampler.specs.declared.Month.{Month}
use Rattle.sampler.proofs.ConcentrationLaws.{micrograms_le}

pub reading_le : (r : Reading) → micrograms (reading_of r) ≤ most_micrograms
reading_le (Measured x) = micrograms_le x
reading_le (Below limit) = micrograms_le limit
reading_le Missing = omega arith

module _ (m : Month) (passed : month_rule m ≡ Ok tt) where
  rain_le : m.rain ≤ most_rain
  unfolding month_rule
  rain_le = leb-true m.rain most_rain (pass_then _ _ _ (both_passed _ _ passed).0).0

  pub sulphur_le : sulphur_of m ≤ most_rain * most_micrograms
  unfolding sulphur_of
  sulphur_le = mul-le-mul rain_le (reading_le m.sulphate)

  pub nitrogen_le : nitrogen_of m ≤ most_rain * (2 * most_micrograms)
  unfolding nitrogen_of
  nitrogen_le =
      let n = reading_le m.nitrate in
      let a = reading_le m.ammonium in
      let both : micrograms (reading_of m.nitrate) + micrograms (reading_of m.ammonium) ≤ 2 * most_micrograms = omega arith in
      mul-le-mul rain_le both
