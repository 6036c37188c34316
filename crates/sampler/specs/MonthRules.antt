-- A month: its rules, in order the rain, sulphate, nitrate and ammonium, and what it brings.
use Rattle.std.specs.Prelude.{ℕ, ◌+◌, ◌*◌, leb, Result, Ok, Err}
use Rattle.site.specs.Refusal.{and_then, Checked}
use Rattle.site.specs.Choice.{pick}
use Rattle.site.specs.declared.Rule.{Rule}
use Rattle.site.specs.declared.Rule.TheVariants.{OutOfRange, NoReading}
use Rattle.sampler.specs.Micrograms.{concentration_of}
use Rattle.sampler.specs.declared.Reading.{Reading}
use Rattle.sampler.specs.declared.Reading.TheVariants.{Measured, Below, Missing}
use Rattle.sampler.specs.declared.Month.{Month}
use Rattle.sampler.specs.declared.months.Deposition.{Deposition}

-- mm
abbrev pub most_rain : ℕ
most_rain = 1000

-- a value below the detection limit counts as the limit; rule 13 for one that is missing
abbrev pub reading_of : Reading → Result ℕ Rule
reading_of (Measured x) = concentration_of x
reading_of (Below limit) = concentration_of limit
reading_of Missing = Err NoReading

-- rules 12 and 13
abbrev pub concentration_rule : Result ℕ Rule → Checked
concentration_rule (Ok n) = Ok tt
concentration_rule (Err rule) = Err rule

-- µg per litre; 0 where the reading is refused
abbrev pub micrograms : Result ℕ Rule → ℕ
micrograms (Ok n) = n
micrograms (Err rule) = 0

abbrev pub readings_rule : (sulphate nitrate ammonium : Result ℕ Rule) → Checked
readings_rule s n a = and_then (concentration_rule s) (and_then (concentration_rule n) (concentration_rule a))

-- rule 8 for the rain, then the readings
unfoldable pub month_rule : Month → Checked
month_rule m = and_then (pick (leb m.rain most_rain) (Ok tt) (Err OutOfRange)) (readings_rule (reading_of m.sulphate) (reading_of m.nitrate) (reading_of m.ammonium))

-- mm times µg per litre
unfoldable pub sulphur_of : Month → ℕ
sulphur_of m = m.rain * micrograms (reading_of m.sulphate)

-- both forms together
unfoldable pub nitrogen_of : Month → ℕ
nitrogen_of m = m.rain * (micrograms (reading_of m.nitrate) + micrograms (reading_of m.ammonium))

-- what the code gives for a month
abbrev pub deposition_of : Month → Result Deposition Rule
deposition_of m = and_then (month_rule m) (Ok (record { sulphur = sulphur_of m; nitrogen = nitrogen_of m }))
