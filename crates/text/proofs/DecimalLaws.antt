-- The digits of a number.
use Prim.Native.Nat.{ℕ, zero, suc, ◌+◌, ◌*◌, ◌/◌, ◌%◌, ◌^◌, ◌≤◌, ◌<◌}
use mathlib.Core.Path.{◌≡◌, refl, sym, ap, ◌∙◌}
use mathlib.Core.Bool.{Bool, true, false}
use mathlib.Core.List.{List, [], ◌∷◌, ◌++◌}
use native.Mathlib.Omega.{arith}
use native.Mathlib.Nat.{pow-succ'}
use Rattle.std.proofs.Math.Nat.{one-le-pow}
use borrow.Author.Tests.{lt-ltb, le-ltb, ltb-true, ltb-false}
use lib.Dec.{ltb}
use lib.ListN.{length, length-append}
use Rattle.std.specs.Fmt.{decimal as std_decimal}
use Rattle.std.proofs.lemmas.Fmt.{decimal_digit, decimal_step as std_step, length-decimal-le_succ, decimal_from_appends}
use Rattle.text.specs.Decimal.{dec, decimal}

pub dec_small : (f n : ℕ) → n < 10 → dec f n ≡ (48 + n) ∷ []
unfolding dec
dec_small zero n h = refl
dec_small (suc f) n h = rw (lt-ltb n 10 h, dec)

pub dec_step : (f n : ℕ) → 10 ≤ n → dec (suc f) n ≡ dec f (n / 10) ++ ((48 + n % 10) ∷ [])
unfolding dec
dec_step f n h = rw (le-ltb n 10 h, dec)

-- the bound on the steps does not matter once it is n or more
dec_fuel : (f g n : ℕ) → n ≤ f → n ≤ g → dec f n ≡ dec g n
dec_fuel zero g n hf hg = dec_small zero n (omega arith) ∙ sym (dec_small g n (omega arith))
dec_fuel (suc f) zero n hf hg = dec_small (suc f) n (omega arith) ∙ sym (dec_small zero n (omega arith))
dec_fuel (suc f) (suc g) n hf hg = go (ltb n 10) refl (dec_fuel f g (n / 10) (omega arith) (omega arith))
  where
    go : (b : Bool) → ltb n 10 ≡ b → dec f (n / 10) ≡ dec g (n / 10) → dec (suc f) n ≡ dec (suc g) n
    go true e ih = dec_small (suc f) n (ltb-true n 10 e) ∙ sym (dec_small (suc g) n (ltb-true n 10 e))
    go false e ih = rw (dec_step f n (ltb-false n 10 e), dec_step g n (ltb-false n 10 e), ih)

-- the two equations of a decimal number
pub decimal_small : (n : ℕ) → n < 10 → decimal n ≡ (48 + n) ∷ []
unfolding decimal
decimal_small n h = dec_small n n h

pub decimal_step : (n : ℕ) → 10 ≤ n → decimal n ≡ decimal (n / 10) ++ ((48 + n % 10) ∷ [])
unfolding decimal
decimal_step zero h = absurd (omega arith)
decimal_step (suc m) h =
    dec_step m (suc m) h ∙ ap (λ (l : List ℕ). l ++ ((48 + suc m % 10) ∷ [])) (dec_fuel m (suc m / 10) (suc m / 10) (omega arith) (omega arith))

pub length_small : (n : ℕ) → n < 10 → length (decimal n) ≡ 1
length_small n h = ap length (decimal_small n h)

pub length_step : (n : ℕ) → 10 ≤ n → length (decimal n) ≡ length (decimal (n / 10)) + 1
length_step n h = ap length (decimal_step n h) ∙ simp length-append

-- ---- std's text of a number, which is this one for a number of 64 bits

length-le : (n : ℕ) → 0 < n → n < 2 ^ 64 → length (std_decimal n) ≤ n
length-le n p h = go (ltb n 10) refl
  where
    go : (b : Bool) → ltb n 10 ≡ b → length (std_decimal n) ≤ n
    go true e = omega (arith, ap length (decimal_digit n (ltb-true n 10 e)))
    go false e =
        let step : length (std_decimal n) ≡ length (std_decimal (n / 10)) + 1 = rw (std_step n (ltb-false n 10 e) h, length-append) in
        let l : 10 ≤ n = ltb-false n 10 e in
        omega (arith, step, length-decimal-le_succ (n / 10) (omega arith))

pub printed : (n : ℕ) → n < 2 ^ 64 → std_decimal n ≡ decimal n
unfolding decimal dec
printed zero h = decimal_digit 0 (omega arith)
printed (suc m) h =
    sym (decimal_from_appends dec (record { one = λ k n l. dec_small (suc k) n l; more = dec_step }) (suc m) (suc m) h (length-le (suc m) (omega arith) h))

-- ---- how many digits, by powers of ten

pub length-pos : (n : ℕ) → 1 ≤ length (decimal n)
length-pos n = go (ltb n 10) refl
  where
    go : (b : Bool) → ltb n 10 ≡ b → 1 ≤ length (decimal n)
    go true e = omega (arith, length_small n (ltb-true n 10 e))
    go false e = omega (arith, length_step n (ltb-false n 10 e))

length-dec : (k f n : ℕ) → n < 10 * 10 ^ k → length (dec f n) ≤ suc k
unfolding dec
length-dec k zero n h = omega arith
length-dec zero (suc f) n h = rw (dec_small (suc f) n h) (omega arith)
length-dec (suc k) (suc f) n h = go (ltb n 10) refl (length-dec k f (n / 10) (omega (arith, pow-succ' 10 k)))
  where
    go : (b : Bool) → ltb n 10 ≡ b → length (dec f (n / 10)) ≤ suc k → length (dec (suc f) n) ≤ suc (suc k)
    go true e ih = rw (dec_small (suc f) n (ltb-true n 10 e)) (omega arith)
    go false e ih = rw (dec_step f n (ltb-false n 10 e), length-append) (omega arith)

pub length_below : (k n : ℕ) → 1 ≤ k → n < 10 ^ k → length (decimal n) ≤ k
unfolding decimal
length_below zero n h l = absurd (omega arith)
length_below (suc k) n h l = length-dec k n n (omega (arith, pow-succ' 10 k))

pub length_above : (k n : ℕ) → 10 ^ k ≤ n → suc k ≤ length (decimal n)
length_above zero n h = length-pos n
length_above (suc k) n h =
    let t : 10 * 10 ^ k ≤ n = omega (arith, pow-succ' 10 k) in
    let p : 1 ≤ 10 ^ k = one-le-pow k 10 (omega arith) in
    omega (arith, length_above k (n / 10) (omega arith), length_step n (omega arith))

-- a number of 64 bits has at most 20
pub length_u64 : (n : ℕ) → n < 2 ^ 64 → length (decimal n) ≤ 20
length_u64 n h = length_below 20 n (omega arith) (omega arith)

-- k + 1, where 10 ^ k is the greatest power of ten that n reaches
pub length_between : (k n : ℕ) → 10 ^ k ≤ n → n < 10 * 10 ^ k → length (decimal n) ≡ k + 1
length_between k n least below = omega (arith, length_above k n least, length_below (suc k) n (omega arith) (omega (arith, pow-succ' 10 k)))
