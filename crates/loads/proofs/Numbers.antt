-- Laws of products, quotients and choices.
use Prim.Native.Nat.{ℕ, suc, ◌+◌, ◌*◌, ◌-◌, ◌/◌, ◌≤◌, ◌<◌}
use mathlib.Core.Path.{◌≡◌, sym}
use mathlib.Core.Bool.{Bool, true, false}
use native.Mathlib.Omega.{arith}
use native.Mathlib.Nat.{mul_comm, mul-le-mul, mul-le-mul_left, mul-le-mul_right, le_trans, le-div_iff_mul-le, div-mul-le_self, div-le_of_le-mul, div-lt_iff_lt-mul, div-eq_of_lt-le, add-mul, one-mul}
use Rattle.std.specs.Int.{div_ceil}
use Rattle.std.proofs.lemmas.Grind.{div_ceil_times}
use Rattle.site.specs.Choice.{pick}
use Rattle.loads.specs.Rounding.{up}

-- a product of bounded factors; the bounds are written, so that `omega` can show a factor's bound
pub prod : (a b : ℕ) {x y : ℕ} → x ≤ a → y ≤ b → x * y ≤ a * b
prod a b h i = mul-le-mul h i

-- a quotient grows with its dividend
pub div_mono : (k : ℕ) {a b : ℕ} → 0 < k → a ≤ b → a / k ≤ b / k
div_mono k {a} {b} p h = (le-div_iff_mul-le p).1 (le_trans (div-mul-le_self a k) h)

-- a percentage of at most 100
pub part_le : (x p : ℕ) → p ≤ 100 → x * p / 100 ≤ x
part_le x p h = div-le_of_le-mul 100 (rw (mul_comm 100 x) (mul-le-mul_left x h))

-- a quotient, from a bound of the divisor below
pub quotient_le : (a r k n : ℕ) → k ≤ r → a ≤ k * n → a / r ≤ n
quotient_le a r k n h l = div-le_of_le-mul r (le_trans l (mul-le-mul_right n h))

-- a quotient, up, is the least whole number that is enough
pub up_le : (x d k : ℕ) → 0 < d → x ≤ k * d → up x d ≤ k
unfolding up
up_le x d k p h = let z : (x + (d - 1)) / d < suc k = (div-lt_iff_lt-mul p).1 (omega arith) in omega arith

pub up_enough : (x d : ℕ) → 0 < d → x ≤ up x d * d
unfolding up
up_enough x d p =
    let z : x + (d - 1) < suc (up x d) * d = (div-lt_iff_lt-mul p).0 (omega arith) in
    omega arith

-- it is what `div_ceil` gives
pub up_is : (x d : ℕ) → 0 < d → div_ceil x d ≡ up x d
unfolding up
up_is x d p =
    let t = div_ceil_times x d p in
    let next : (div_ceil x d + 1) * d ≡ div_ceil x d * d + d = rw (add-mul, one-mul) in
    sym (div-eq_of_lt-le d (omega (arith, t.1)) (omega (arith, t.0, next)))

-- a choice of two bounded numbers
pub pick-le : {x y k : ℕ} (b : Bool) → x ≤ k → y ≤ k → pick b x y ≤ k
pick-le true h i = h
pick-le false h i = i
