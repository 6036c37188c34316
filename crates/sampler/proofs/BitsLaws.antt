-- What a float's bits stand for: `units` of them, in units of 2 ^ -149.
use Prim.Native.Nat.{ℕ, zero, suc, ◌+◌, ◌*◌, ◌%◌, ◌^◌, ◌≤◌, ◌<◌, ◌-◌}
use mathlib.Core.Path.{◌≡◌, sym, ap, ◌∙◌, subst}
use mathlib.Core.Bool.{Bool, true, false, cond}
use native.Mathlib.Nat.{mul-one, mul_assoc, mul-le-mul_right, mul-le-mul_left, le_trans}
use native.Mathlib.Omega.{arith}
use lib.Dec.{T, leb, eqb}
use lib.Pow.{pow-add, pow_pos, pow_mono}
use lib.Ieee.{Float, nan, inf, fin, binary32, odd, fits, of_fields, of_bits, to_bits}
use lib.Ieee.Digits.{Equals, odd_val}
use lib.Ieee.Bits.{of_bits-to_bits}
use lib.Ieee.Scale.{finite}
use lib.Ieee.Positive.{num, den}
use Rattle.loads.specs.Rounding.{up}
use Rattle.sampler.specs.FloatBits.{units_by, exponent, units}
use Rattle.sampler.proofs.QuotientLaws.{up_same}

fields_units : (s : Bool) (k t : ℕ) → T (finite (of_fields binary32 s k t)) → Equals (of_fields binary32 s k t) (units_by k t) (2 ^ 149)
unfolding of_fields
fields_units s zero t h = subst (λ (a : ℕ). Equals (odd 24 s t 0 149) a (2 ^ 149)) (mul-one t) (odd_val 24 s t 0 149)
fields_units s (suc k) t h = go (eqb (suc k) 255) h
  where
    none : (b : Bool) → T (finite (cond b (inf s) nan)) → ⊥
    none true f = f
    none false f = f

    go : (b : Bool) → T (finite (cond b (cond (eqb t 0) (inf s) nan) (odd 24 s (8388608 + t) k 149)))
        → Equals (cond b (cond (eqb t 0) (inf s) nan) (odd 24 s (8388608 + t) k 149)) ((8388608 + t) * 2 ^ k) (2 ^ 149)
    go true f = absurd (none (eqb t 0) f)
    go false f = odd_val 24 s (8388608 + t) k 149

bits_units : (b : ℕ) → T (finite (of_bits binary32 b)) → Equals (of_bits binary32 b) (units b) (2 ^ 149)
unfolding of_bits
bits_units b h = fields_units (leb 2147483648 b) (exponent b) (b % 8388608) h

equals_cross : (x : Float) (a c : ℕ) → Equals x a c → num x * c ≡ a * den x
equals_cross nan a c h = absurd h
equals_cross (inf s) a c h = absurd h
equals_cross (fin s m e) a c h = h

pub value_of_bits : (x : Float) → T (fits binary32 x) → T (finite x) → num x * 2 ^ 149 ≡ units (to_bits binary32 x) * den x
value_of_bits x f h =
    let b = to_bits binary32 x in
    let e : of_bits binary32 b ≡ x = of_bits-to_bits binary32 x f in
    let v = bits_units b (subst (λ (y : Float). T (finite y)) (sym e) h) in
    equals_cross x (units b) (2 ^ 149) (subst (λ (y : Float). Equals y (units b) (2 ^ 149)) e v)

pub units_big : (k t : ℕ) → 150 ≤ k → 8388608 * 2 ^ 149 ≤ units_by k t
units_big zero t h = absurd (omega arith)
units_big (suc k) t h =
    let l : 8388608 ≤ 8388608 + t = omega arith in
    let p : 149 ≤ k = omega arith in
    le_trans (mul-le-mul_right (2 ^ 149) l) (mul-le-mul_left (8388608 + t) (pow_mono p))

-- an exponent above 0: the fraction with its hidden bit, over the power of two that is left
pub up_units : (k t : ℕ) → 0 < k → k ≤ 149 → up (1000 * (8388608 + t)) (2 ^ (150 - k)) ≡ up (1000 * units_by k t) (2 ^ 149)
up_units zero t p h = absurd (omega arith)
up_units (suc k) t p h =
    let q = 8388608 + t in
    let r = 150 - suc k in
    let e : k + r ≡ 149 = omega arith in
    let w : 2 ^ 149 ≡ 2 ^ k * 2 ^ r = ap (λ (n : ℕ). 2 ^ n) (sym e) ∙ pow-add 2 k r in
    up_same (1000 * q) (2 ^ r) (1000 * (q * 2 ^ k)) (2 ^ 149) (pow_pos r) (pow_pos 149)
    (ap (λ (n : ℕ). 1000 * q * n) w ∙ sym (mul_assoc (1000 * q) (2 ^ k) (2 ^ r)) ∙ ap (λ (n : ℕ). n * 2 ^ r) (mul_assoc 1000 q (2 ^ k)))
