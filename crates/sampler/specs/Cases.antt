-- Floats by their bits, and years: a table of each. `floats_agree` and `years_agree` in `proofs/Cases.antt` prove that the definitions give the numbers
-- beside them.
use Rattle.std.specs.Prelude.{ℕ, false, List, [], ◌∷◌, ◌++◌, pos, negsuc, replicate, Float, Result, Ok, Err}
use Rattle.std.specs.Float.{nan, fin, binary32}
use Rattle.std.specs.Float.Ieee.{of_bits}
use Rattle.site.specs.Refusal.{rule_number}
use Rattle.site.specs.declared.Rule.{Rule}
use Rattle.site.specs.declared.Refusal.{Refusal}
use Rattle.sampler.specs.declared.Reading.{Reading}
use Rattle.sampler.specs.declared.Reading.TheVariants.{Measured, Below, Missing}
use Rattle.sampler.specs.declared.Month.{Month}
use Rattle.sampler.specs.declared.Pair.{Pair}

-- ---- floats: the µg, or the number of the rule

abbrev pub given_by : Result ℕ Rule → Result ℕ ℕ
given_by (Ok n) = Ok n
given_by (Err rule) = Err (rule_number rule)

pub record FloatCase : Type 0 where
  pub bits : ℕ
  pub given : Result ℕ ℕ

unfoldable pub floats : List FloatCase
floats =
    record { bits = 0x0000_0000; given = Ok 0 }
    ∷ record { bits = 0x8000_0000; given = Ok 0 }  -- minus zero
    ∷ record { bits = 0x0000_0001; given = Ok 1 }  -- the least subnormal
    ∷ record { bits = 0x007f_ffff; given = Ok 1 }  -- the greatest
    ∷ record { bits = 0x3a83_126e; given = Ok 1 }  -- the float below 0.001
    ∷ record { bits = 0x3a83_126f; given = Ok 2 }  -- 0.001, which lies above one thousandth
    ∷ record { bits = 0x3dcc_cccd; given = Ok 101 }  -- 0.1
    ∷ record { bits = 0x3f00_0000; given = Ok 500 }  -- 0.5
    ∷ record { bits = 0x447a_0000; given = Ok 1000000 }  -- 1000
    ∷ record { bits = 0x447a_0001; given = Err 12 }  -- the next above it
    ∷ record { bits = 0x8000_0001; given = Err 12 }  -- minus the least subnormal
    ∷ record { bits = 0x7f80_0000; given = Err 12 }  -- the infinities
    ∷ record { bits = 0xff80_0000; given = Err 12 }
    ∷ record { bits = 0x7f80_0001; given = Err 12 }  -- not a number
    ∷ record { bits = 0xffff_ffff; given = Err 12 }
    ∷ []

-- ---- years: S and N, or number and offset

abbrev pub year_numbers : Result Pair Refusal → (ℕ × ℕ)
year_numbers (Ok p) = (p.sulphur, p.nitrogen)
year_numbers (Err r) = (rule_number r.rule, r.at)

-- m mg per litre, and m quarters of one
abbrev mg : ℕ → Float
mg m = fin false m (pos 0)

abbrev quarters : ℕ → Float
quarters m = fin false m (negsuc 1)

abbrev month : ℕ → (sulphate nitrate ammonium : Reading) → Month
month mm s n a = record { rain = mm; sulphate = s; nitrate = n; ammonium = a }

-- 100 mm with 250 µg per litre of each
abbrev plain : Month
plain = month 100 (Measured (quarters 1)) (Below (quarters 1)) (Measured (quarters 1))

-- 1 mm with 1 µg per litre of each, from the least subnormal
abbrev trace : Month
trace = month 1 (Measured (of_bits binary32 1)) (Measured (of_bits binary32 1)) (Below (of_bits binary32 1))

-- 1000 mm with 9 mg per litre of each
abbrev heavy : Month
heavy = month 1000 (Measured (mg 9)) (Measured (mg 9)) (Measured (mg 9))

pub record YearCase : Type 0 where
  pub months : List Month
  pub given : ℕ × ℕ

unfoldable pub years : List YearCase
years =
    record { months = replicate 12 plain; given = (188, 429) }  -- 187.5 and 428.6
    ∷ record { months = replicate 12 trace; given = (1, 1) }  -- each month rounded by itself would give 12
    ∷ record { months = replicate 4 plain ++ month 1001 Missing Missing (Measured nan) ∷ replicate 7 plain; given = (8, 4) }
    ∷ record { months = replicate 11 plain ++ month 1000 (Measured nan) Missing Missing ∷ []; given = (12, 11) }
    ∷ record { months = replicate 2 plain ++ month 0 (Measured (mg 3)) Missing (Measured nan) ∷ replicate 9 plain; given = (13, 2) }
    ∷ record { months = month 0 (Measured (mg 3)) (Below (mg 1001)) Missing ∷ replicate 11 plain; given = (12, 0) }
    ∷ record { months = replicate 12 heavy; given = (14, 12) }
    ∷ record { months = replicate 11 heavy ++ month 0 Missing (Measured nan) (Measured nan) ∷ []; given = (13, 11) }  -- before 14
    ∷ record { months = replicate 12 (month 1000 (Measured (mg 9)) (Measured (mg 0)) (Measured (mg 0))); given = (14, 12) }  -- sulphur alone
    ∷ record { months = replicate 12 (month 1000 (Measured (mg 0)) (Measured (mg 3)) (Below (mg 5))); given = (14, 12) }  -- nitrogen alone
    ∷ []
