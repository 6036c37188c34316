-- The acid exceedance is the least whole number that is enough, and what follows: it never falls when S or N rises.
use Prim.Native.Nat.{ℕ, ◌+◌, ◌*◌, ◌-◌, ◌≤◌, ◌<◌}
use mathlib.Core.Path.{◌≡◌, ap}
use mathlib.Core.Logic.{◌⊎◌, inl, inr, ⊎_elim}
use native.Mathlib.Omega.{arith}
use native.Mathlib.Nat.{mul-le-mul_left, mul-le-mul_right, le_of_mul-le-mul_left}
use Rattle.loads.specs.Rounding.{up}
use Rattle.site.proofs.Tests.{le_or_lt}
use Rattle.loads.proofs.Numbers.{up_le, up_enough}
use Rattle.judgement.specs.Regions.{D, excess, acid_in, acid_of}
use Rattle.judgement.proofs.RegionLaws.{by_region}
use Rattle.judgement.proofs.NotCutOff.{slope_one, slope_three}

-- (b − a) × (d − c) is not below 0: what `omega` lacks for products of inequalities
cross : {a b c d : ℕ} → a ≤ b → c ≤ d → a * d + b * c ≤ a * c + b * d
cross {a} {b} {c} {d} h i =
    let k = b - a in
    let q : a + k ≡ b = omega arith in
    omega (arith, mul-le-mul_left k i, ap (λ z. z * c) q, ap (λ z. z * d) q)

-- k is enough, with n for N − CLminN: at least S + (e n − 1000 C) / e, and at least the lesser of (1000 + e) v / D and n + S − C
abbrev Enough : (S n C e k : ℕ) → Type 0
Enough S n C e k =
    (e * S + e * n ≤ e * k + 1000 * C)
    × (((1000 + e) * (1000 * S + e * n) ≤ (1000000 + e * e) * k + (1000 + e) * (1000 * C)) ⊎ (n + S ≤ k + C))

-- each region, on plain numbers: n above 0 is N − CLminN, and v is given by its equation
module _ (S n C e : ℕ) (h : e ≤ 1000) where
  zero_enough : 1000 * S + e * n ≤ 1000 * C → Enough S n C e 0
  zero_enough l = (omega (arith, mul-le-mul_right S h), inl (omega (arith, mul-le-mul_left (1000 + e) l)))

  four_enough : n ≡ 0 → C < S → Enough S n C e (S - C)
  four_enough z g =
      let k = S - C in
      let q : k + C ≡ S = omega arith in
      (rw z (omega (arith, ap (λ x. e * x) q, mul-le-mul_right C h)), inr (omega arith))

  four_least : (k : ℕ) → C < S → Enough S n C e k → S - C ≤ k
  four_least k g en =
      ⊎_elim
      (λ l.
      ⊎_elim (λ y. y)
      (λ x.
      let z : k + 1 + C ≤ S = omega arith in
      absurd (omega (arith, l, mul-le-mul_left (1000 + e) z, mul-le-mul_right (e * k) h)))
      (le_or_lt (S - C) k))
      (λ r. omega arith) en.1

  module _ (v : ℕ) (q : v + 1000 * C ≡ 1000 * S + e * n) where
    three_enough : C < S → Enough S n C e (n + S - C)
    three_enough g =
        let k = n + S - C in
        let z : k + C ≡ n + S = omega arith in
        (omega (arith, ap (λ x. e * x) z, mul-le-mul_right C h), inr (omega arith))

    three_least : (k : ℕ) → n * (1000000 + e * e) ≤ e * v → Enough S n C e k → n + S - C ≤ k
    three_least k t en =
        ⊎_elim
        (λ l.
        ⊎_elim (λ y. y)
        (λ x.
        let z : k + 1 + C ≤ n + S = omega arith in
        absurd (omega (arith, l, mul-le-mul_left (1000000 + e * e) z, cross h t, ap (λ x. e * x) q, ap (λ x. e * e * x) q)))
        (le_or_lt (n + S - C) k))
        (λ r. omega arith) en.1

    one_enough : 0 < e → (u : ℕ) → S * (1000000 + e * e) ≤ 1000 * v → e * n ≤ u * e + 1000 * C → Enough S n C e (S + u)
    one_enough p u t b = (
      omega arith,
      inl
          (le_of_mul-le-mul_left {k = e}
          (omega (arith, mul-le-mul_left (1000000 + e * e) b, cross h t, ap (λ x. e * x) q, ap (λ x. e * e * x) q))
          p),
    )

    one_least : 0 < e → (k : ℕ) → 1000 * C < e * n → Enough S n C e k → (S ≤ k) × (e * n - 1000 * C ≤ (k - S) * e)
    one_least p k g en =
        let a : S ≤ k = le_of_mul-le-mul_left {k = e} (omega (arith, en.0)) p in
        let j = k - S in
        let z : S + j ≡ k = omega arith in
        (a, omega (arith, en.0, ap (λ x. e * x) z))

    two_enough : (k : ℕ) → 1000 * v ≤ S * (1000000 + e * e) → (1000 + e) * v ≤ k * (1000000 + e * e) → Enough S n C e k
    two_enough k t b = (
      le_of_mul-le-mul_left {k = 1000000 + e * e}
          (omega (arith, mul-le-mul_left e b, cross h t, ap (λ x. e * x) q, ap (λ x. e * e * x) q))
          (omega arith),
      inl (omega (arith, b, ap (λ x. e * x) q)),
    )

    two_least : (k : ℕ) → e * v ≤ n * (1000000 + e * e) → Enough S n C e k → (1000 + e) * v ≤ k * (1000000 + e * e)
    two_least k t en =
        ⊎_elim (λ l. omega (arith, l, ap (λ x. e * x) q))
        (λ r. omega (arith, mul-le-mul_left (1000000 + e * e) r, cross h t, ap (λ x. e * x) q, ap (λ x. e * e * x) q))
        en.1

-- v as an equation, where it is above 0
excess_is : (S C e n : ℕ) → 1000 * C < 1000 * S + e * n → excess S C e n + 1000 * C ≡ 1000 * S + e * n
unfolding excess
excess_is S C e n g = omega arith

module _ (S N C m e : ℕ) (p : 0 < e) (h : e ≤ 1000) where
  -- the acid exceedance is enough
  acid_enough : Enough S (N - m) C e (acid_of S N C m e)
  unfolding acid_of acid_in D
  acid_enough =
      let n = N - m in
      let v = excess S C e n in
      by_region S N C m e (λ r. Enough S n C e (acid_in r S N C m e))
      (λ l. zero_enough S n C e h l)
      (λ l g. four_enough S n C e h (omega arith) g)
      (λ l g t. three_enough S n C e h v (excess_is S C e n g) (slope_three S N C m e t))
      (λ l g t k.
      let u = up_enough (e * n - 1000 * C) e p in
      one_enough S n C e h v (excess_is S C e n g) p (up (e * n - 1000 * C) e) (omega (arith, k)) (omega (arith, u)))
      (λ l g t k.
      two_enough S n C e h v (excess_is S C e n g) (up ((1000 + e) * v) (D e)) k (up_enough ((1000 + e) * v) (D e) (omega arith)))

  -- and no smaller whole number is
  acid_least : (k : ℕ) → Enough S (N - m) C e k → acid_of S N C m e ≤ k
  unfolding acid_of acid_in D
  acid_least k en =
      let n = N - m in
      let v = excess S C e n in
      by_region S N C m e (λ r. acid_in r S N C m e ≤ k)
      (λ l. omega arith)
      (λ l g. four_least S n C e h k g en)
      (λ l g t. three_least S n C e h v (excess_is S C e n g) k (omega (arith, t)) en)
      (λ l g t b.
      let z = one_least S n C e h v (excess_is S C e n g) p k (slope_one S N C m e b) en in
      omega (arith, z.0, up_le (e * n - 1000 * C) e (k - S) p z.1))
      (λ l g t b. up_le ((1000 + e) * v) (D e) k (omega arith) (two_least S n C e h v (excess_is S C e n g) k t en))

-- what is enough for more is enough for less
less_enough : (S n S' n' C e k : ℕ) → S ≤ S' → n ≤ n' → Enough S' n' C e k → Enough S n C e k
less_enough S n S' n' C e k a b en =
    let e_s = mul-le-mul_left e a in
    let en' = mul-le-mul_left e b in
    let both : 1000 * S + e * n ≤ 1000 * S' + e * n' = omega arith in (
      omega (arith, en.0, e_s, en'),
      ⊎_elim (λ x. inl (omega (arith, x, mul-le-mul_left (1000 + e) both))) (λ y. inr (omega arith)) en.1,
    )

module _ (C m e : ℕ) (p : 0 < e) (h : e ≤ 1000) where
  -- the acid exceedance never falls when S or N rises
  pub acid_mono : {S N S' N' : ℕ} → S ≤ S' → N ≤ N' → acid_of S N C m e ≤ acid_of S' N' C m e
  acid_mono {S} {N} {S'} {N'} a b =
      acid_least S N C m e p h (acid_of S' N' C m e)
      (less_enough S (N - m) S' (N' - m) C e (acid_of S' N' C m e) a (omega arith) (acid_enough S' N' C m e p h))
