-- The bits that are not a number, by the code's one test of them.
use Prim.Native.Nat.{ℕ, ◌%◌, ◌<◌}
use mathlib.Core.Path.{◌≡◌}
use native.Mathlib.Omega.{arith}
use lib.Ieee.{nan, binary32, of_fields, of_bits}
use borrow.Author.Tests.{ne_eqb}
use Rattle.sampler.specs.FloatBits.{exponent}

pub not_a_number : (n : ℕ) → 2139095040 < n % 2147483648 → of_bits binary32 n ≡ nan
unfolding of_bits of_fields
not_a_number n h =
    let e : exponent n ≡ 255 = omega arith in
    rw (e, ne_eqb (n % 8388608) 0 (λ z. omega arith))
