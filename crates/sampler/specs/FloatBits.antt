-- The bits of a float of 32 bits without its sign: an exponent of 8 bits and a fraction of 23. Words of contracts of private functions and of laws.
use Rattle.std.specs.Prelude.{ℕ, zero, suc, ◌+◌, ◌*◌, ◌/◌, ◌%◌, ◌^◌}

-- what they stand for, in units of 2 ^ -149; an exponent above 0 has a hidden bit before the fraction
abbrev pub units_by : (exponent fraction : ℕ) → ℕ
units_by zero t = t
units_by (suc k) t = (8388608 + t) * 2 ^ k

abbrev pub exponent : ℕ → ℕ
exponent b = b % 2147483648 / 8388608

abbrev pub units : ℕ → ℕ
units b = units_by (exponent b) (b % 8388608)
