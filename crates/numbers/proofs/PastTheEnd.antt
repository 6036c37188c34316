-- Past the end of the bytes stand zeros; a number of two bytes is below 2¹⁶.
use mathlib.Core.Path.{◌≡◌}
use mathlib.Core.List.{List}
use Prim.Native.Nat.{ℕ, ◌+◌, ◌≤◌}
use native.Mathlib.Omega.{arith}
use lib.ListN.{length, get_or, get_or-eq_default}
use Rattle.numbers.specs.TwoBytes.{AllBytes, word_at}

pub byte_past : (v : List ℕ) (i : ℕ) → length v ≤ i → get_or v i 0 ≡ 0
byte_past v i h = get_or-eq_default v 0 {n = i} h

pub word_past : (v : List ℕ) (i : ℕ) → length v ≤ i → word_at v i ≡ 0
word_past v i h = rw (byte_past v i h, byte_past v (i + 1) (omega arith))

pub word_le : (v : List ℕ) (i : ℕ) → AllBytes v → word_at v i ≤ 65535
word_le v i b = omega (arith, b i, b (i + 1))
