-- Laws of a quotient up: it is that of the fraction, however that is written.
use Prim.Native.Nat.{ℕ, zero, suc, ◌+◌, ◌-◌, ◌*◌, ◌/◌, ◌%◌, ◌^◌, ◌≤◌, ◌<◌, min}
use mathlib.Core.Path.{◌≡◌, sym, ap, ◌∙◌}
use native.Mathlib.Nat.{mul_right_comm, mul-le-mul_right, mul-le-mul_left, le_trans, le_of_eq, le_antisymm, le_of_mul-le-mul_right, div-eq_of_lt, add-div_right}
use native.Mathlib.Omega.{arith}
use native.Mathlib.Decide.{dec_le}
use lib.Pow.{pow_pos, pow_mono}
use Rattle.std.specs.Int.{div_ceil}
use Rattle.std.proofs.lemmas.Nat.{one_shl}
use Rattle.loads.specs.Rounding.{up}
use Rattle.loads.proofs.Numbers.{up_le, up_enough, up_is}

-- of two fractions the greater has no smaller quotient up
up_mono : (a b c d : ℕ) → 0 < b → 0 < d → a * d ≤ c * b → up a b ≤ up c d
up_mono a b c d p q h =
    let n = up c d in
    let r : c * b ≤ n * d * b = mul-le-mul_right b (up_enough c d q) in
    up_le a b n p (le_of_mul-le-mul_right (le_trans h (le_trans r (le_of_eq (mul_right_comm n d b)))) q)

pub up_same : (a b c d : ℕ) → 0 < b → 0 < d → a * d ≡ c * b → up a b ≡ up c d
up_same a b c d p q e = le_antisymm (up_mono a b c d p q (le_of_eq e)) (up_mono c d a b q p (le_of_eq (sym e)))

pub up_zero : (b : ℕ) → 0 < b → up 0 b ≡ 0
unfolding up
up_zero b p = div-eq_of_lt (omega arith)

-- above 0 it is one more than the quotient of one less
pub up_suc : (a b : ℕ) → 0 < a → 0 < b → (a - 1) / b + 1 ≡ up a b
unfolding up
up_suc a b p q =
    let e : a + (b - 1) ≡ a - 1 + b = omega arith in
    rw e (sym (add-div_right (a - 1) q))

pub up_one : (a b : ℕ) → 0 < a → a ≤ b → up a b ≡ 1
up_one a b p h =
    let e : (a - 1) / b ≡ 0 = div-eq_of_lt (omega arith) in
    sym (up_suc a b p (omega arith)) ∙ ap (λ n. n + 1) e

-- over a power of two of 64 bits: past 2 ^ 63 no quotient up changes
pub up_power : (a s k : ℕ) → a ≤ 2 ^ 63 → k ≡ min s 63 → div_ceil a (1 * 2 ^ k % 2 ^ 64) ≡ up a (2 ^ s)
up_power a s k h e =
    let l : k < 64 = omega arith in
    rw (one_shl k 64 l) (up_is a (2 ^ k) (pow_pos k) ∙ go (dec_le s 63))
  where
    enough : (n : ℕ) → a ≤ n * 2 ^ s → a ≤ n * 2 ^ 63
    enough zero l = omega arith
    enough (suc n) l = le_trans h (omega arith)

    large : 63 ≤ s → up a (2 ^ 63) ≡ up a (2 ^ s)
    large l =
        le_antisymm (up_le a (2 ^ 63) (up a (2 ^ s)) (pow_pos 63) (enough (up a (2 ^ s)) (up_enough a (2 ^ s) (pow_pos s))))
        (up_mono a (2 ^ s) a (2 ^ 63) (pow_pos s) (pow_pos 63) (mul-le-mul_left a (pow_mono l)))

    go : Dec (s ≤ 63) → up a (2 ^ k) ≡ up a (2 ^ s)
    go (yes l) = let same : k ≡ s = omega arith in rw same
    go (no n) = let same : k ≡ 63 = omega arith in rw same (large (omega arith))
