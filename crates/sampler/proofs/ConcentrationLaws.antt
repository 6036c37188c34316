-- A float's µg: what the definition means, by the test of the code, and by the float's bits.
use Prim.Native.Nat.{ℕ, ◌+◌, ◌*◌, ◌%◌, ◌^◌, ◌≤◌, ◌<◌}
use mathlib.Core.Path.{◌≡◌, refl, sym, ap, ◌∙◌}
use mathlib.Core.Bool.{Bool, true, false, cond, ◌&&◌, ◌||◌, true≢false}
use mathlib.Core.Logic.{⊎_elim}
use native.Mathlib.Nat.{mul_assoc, mul_right_comm, mul-le-mul_right, le_trans, le_of_eq, le_of_mul-le-mul_right}
use native.Mathlib.Omega.{arith}
use native.Mathlib.Decide.{dec_le}
use lib.Dec.{T, ltb, eqb}
use lib.IntN.{pos}
use lib.Pow.{pow_pos}
use lib.Ieee.{Float, nan, inf, fin, binary32, up as up_power, down as down_power, fits, to_bits, le, lt, eq}
use lib.Ieee.Fits.{down_pos}
use lib.Ieee.Scale.{finite}
use lib.Ieee.Positive.{num, den, den_pos}
use Rattle.std.proofs.lemmas.Bool.{and_cases}
use Rattle.std.proofs.lemmas.Bool.Decides.{nat_tests}
use Rattle.std.proofs.Common.{Less, Equal, Greater}
use Rattle.std.specs.Ordering.{partial_le, float_partial_cmp, is_some_and, is_le}
use Rattle.std.specs.declared.ops.RangeInclusive.{RangeInclusive}
use Rattle.std.specs.Range.{range_inclusive_start, range_inclusive_end, range_inclusive_exhausted, range_inclusive_contains}
use borrow.Author.Tests.{lt-ltb}
use Rattle.std.specs.Prelude.{Ok, Err, Some, None}
use Rattle.site.specs.declared.Rule.TheVariants.{BadConcentration}
use Rattle.site.proofs.Tests.{and_l, and_r}
use Rattle.loads.specs.Rounding.{up}
use Rattle.loads.proofs.Numbers.{up_le, up_enough}
use Rattle.sampler.specs.Micrograms.{most_micrograms, size_taken, concentration_of}
use Rattle.sampler.specs.FloatBits.{exponent, units}
use Rattle.sampler.specs.MonthRules.{micrograms}
use Rattle.sampler.proofs.QuotientLaws.{up_same}
use Rattle.sampler.proofs.BitsLaws.{value_of_bits, units_big}

-- ---- what the definition means

-- the µg of a float x, whose size is num x / den x, are the least whole number that reaches 1000 × its size
pub micrograms_least : (x : Float) (n : ℕ) → concentration_of x ≡ Ok n → (1000 * num x ≤ n * den x) × ((k : ℕ) → 1000 * num x ≤ k * den x → n ≤ k)
unfolding concentration_of
micrograms_least nan n h = absurd (cc)
micrograms_least (inf s) n h = absurd (cc)
micrograms_least (fin s m e) n h = go (m * up_power e) (down_power e) (down_pos e) h
  where
    go : (a c : ℕ) → 0 < c → size_taken s a c ≡ Ok n → (1000 * a ≤ n * c) × ((k : ℕ) → 1000 * a ≤ k * c → n ≤ k)
    go a c p q = (grind (arith, nat_tests, up_enough (1000 * a) c p), λ k l. grind (arith, nat_tests, up_le (1000 * a) c k p l))

pub micrograms_le : (x : Float) → micrograms (concentration_of x) ≤ most_micrograms
unfolding concentration_of
micrograms_le nan = omega arith
micrograms_le (inf s) = omega arith
micrograms_le (fin s m e) = go s (m * up_power e) (down_power e) (down_pos e)
  where
    go : (s : Bool) (a c : ℕ) → 0 < c → micrograms (size_taken s a c) ≤ 1000000
    go s a c p = grind (arith, nat_tests, up_le (1000 * a) c 1000000 p)

-- ---- the test of the code, `(0.0..=1000.0).contains(&x)`, by its two parts

abbrev pub zero_f : Float
zero_f = fin false 0 (pos 0)

-- 125 × 2 ^ 3
abbrev pub thousand_f : Float
thousand_f = fin false 125 (pos 3)

-- what they give where both pass
pub record Inside (x : Float) : Type 0 where
  pub is_finite : T (finite x)
  pub small : num x ≤ 1000 * den x
  pub taken : concentration_of x ≡ Ok (up (1000 * num x) (den x))

pub inside : (x : Float) → le zero_f x ≡ true → le x thousand_f ≡ true → Inside x
unfolding le concentration_of
inside nan g h = absurd (cc)
inside (inf true) g h = absurd (cc)
inside (inf false) g h = absurd (cc)
inside (fin false m e) g h = let w = go (m * up_power e) (down_power e) h in record { is_finite = tt; small = w.0; taken = w.1 }
  where
    go : (a c : ℕ) → (ltb (a * 1) (1000 * c) || (eqb (a * 1) (1000 * c) && true)) ≡ true → (a ≤ 1000 * c) × (size_taken false a c ≡ Ok (up (1000 * a) c))
    go a c k = grind (arith, nat_tests)
inside (fin true m e) g h = let w = go (m * up_power e) (down_power e) g in record { is_finite = tt; small = w.0; taken = w.1 }
  where
    go : (a c : ℕ) → (eqb (0 * 1 * c) (a * 1) && (false || eqb (0 * 1 * c) 0)) ≡ true → (a ≤ 1000 * c) × (size_taken true a c ≡ Ok (up (1000 * a) c))
    go a c k = grind (arith, nat_tests)

pub below_zero : (x : Float) → le zero_f x ≡ false → concentration_of x ≡ Err BadConcentration
unfolding le concentration_of
below_zero nan h = refl
below_zero (inf s) h = refl
below_zero (fin false m e) h = below (m * up_power e) (down_power e) h
  where
    below : (a c : ℕ) → (ltb (0 * 1 * c) (a * 1) || (eqb (0 * 1 * c) (a * 1) && true)) ≡ false → size_taken false a c ≡ Err BadConcentration
    below a c k = grind (arith, nat_tests)
below_zero (fin true m e) h = below (m * up_power e) (down_power e) h
  where
    below : (a c : ℕ) → (eqb (0 * 1 * c) (a * 1) && (false || eqb (0 * 1 * c) 0)) ≡ false → size_taken true a c ≡ Err BadConcentration
    below a c k = grind (arith, nat_tests)

pub above_most : (x : Float) → le x thousand_f ≡ false → concentration_of x ≡ Err BadConcentration
unfolding le concentration_of
above_most nan h = refl
above_most (inf s) h = refl
above_most (fin false m e) h = above (m * up_power e) (down_power e) h
  where
    above : (a c : ℕ) → (ltb (a * 1) (1000 * c) || (eqb (a * 1) (1000 * c) && true)) ≡ false → size_taken false a c ≡ Err BadConcentration
    above a c k = grind (arith, nat_tests)
above_most (fin true m e) h =
    let p = down_pos e in
    absurd (true≢false (sym (rw (lt-ltb 0 (m * up_power e * 1 + 1000 * down_power e) (omega arith))) ∙ h))

-- `contains` compares by `partial_cmp`
partial_le_is : (x y : Float) → partial_le float_partial_cmp x y ≡ le x y
unfolding le
partial_le_is x y = go (lt x y) (eq x y) (lt y x)
  where
    go : (a b c : Bool) → is_some_and is_le (cond a (Some Less) (cond b (Some Equal) (cond c (Some Greater) None))) ≡ (a || b)
    go true b c = refl
    go false true c = refl
    go false false true = refl
    go false false false = refl

module _ (r : RangeInclusive Float) (x : Float) (start : range_inclusive_start r ≡ zero_f) (end : range_inclusive_end r ≡ thousand_f) (new : range_inclusive_exhausted r ≡ false) where
  both : range_inclusive_contains float_partial_cmp r x ≡ (le zero_f x && le x thousand_f)
  both = rw (start, end, new, partial_le_is zero_f x, partial_le_is x thousand_f)

  pub contained : range_inclusive_contains float_partial_cmp r x ≡ true → Inside x
  contained h = let w = sym both ∙ h in inside x (and_l _ _ w) (and_r _ _ w)

  pub not_contained : range_inclusive_contains float_partial_cmp r x ≡ false → concentration_of x ≡ Err BadConcentration
  not_contained h = ⊎_elim (below_zero x) (above_most x) (and_cases _ _ (sym both ∙ h))

-- ---- by the bits

pub exponent_small : (x : Float) → T (fits binary32 x) → Inside x → exponent (to_bits binary32 x) ≤ 149
exponent_small x f i =
    let b = to_bits binary32 x in
    let n : units b * den x ≤ 1000 * 2 ^ 149 * den x =
    le_trans (le_of_eq (sym (value_of_bits x f i.is_finite))) (le_trans (mul-le-mul_right (2 ^ 149) i.small) (le_of_eq (mul_right_comm 1000 (den x) (2 ^ 149)))) in
    let u : units b ≤ 1000 * 2 ^ 149 = le_of_mul-le-mul_right n (den_pos x) in
    go (dec_le (exponent b) 149) u
  where
    -- 2 ^ 149 as a variable: omega leaves out numbers of that size
    too_big : (n p : ℕ) → 0 < p → 8388608 * p ≤ n → n ≤ 1000 * p → ⊥
    too_big n p q h g = omega arith

    go : Dec (exponent (to_bits binary32 x) ≤ 149) → units (to_bits binary32 x) ≤ 1000 * 2 ^ 149 → exponent (to_bits binary32 x) ≤ 149
    go (yes h) u = h
    go (no n) u =
        let b = to_bits binary32 x in
        let v = units_big (exponent b) (b % 8388608) (omega arith) in
        absurd (too_big (units b) (2 ^ 149) (pow_pos 149) v u)

pub taken_bits : (x : Float) → T (fits binary32 x) → Inside x → concentration_of x ≡ Ok (up (1000 * units (to_bits binary32 x)) (2 ^ 149))
taken_bits x f i =
    i.taken ∙ ap Ok (up_same (1000 * num x) (den x) (1000 * units (to_bits binary32 x)) (2 ^ 149) (den_pos x) (pow_pos 149)
    (mul_assoc 1000 (num x) (2 ^ 149) ∙ ap (λ (a : ℕ). 1000 * a) (value_of_bits x f i.is_finite) ∙ sym (mul_assoc 1000 (units (to_bits binary32 x)) (den x))))
