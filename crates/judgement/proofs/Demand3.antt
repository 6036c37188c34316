-- Demand 3: a pair is judged within exactly where both balances close for some whole u, i and allowed h.
use Prim.Native.Nat.{ℕ, ◌+◌, ◌*◌, ◌-◌, ◌/◌, ◌≤◌, ◌<◌, min}
use mathlib.Core.Path.{◌≡◌, refl, sym, ◌∙◌}
use mathlib.Core.Logic.{◌↔◌, inl, inr}
use mathlib.Core.List.{[], ◌∷◌}
use native.Mathlib.Omega.{arith}
use native.Mathlib.Nat.{mul-zero, mul_comm, mul-le-mul_left, le_trans, le-div_iff_mul-le}
use Rattle.std.proofs.lemmas.Bool.Decides.{nat_tests}
use Rattle.loads.specs.Terms.{Terms, TermBounds}
use lib.IntN.{pos, ◌+ℤ◌, ◌*ℤ◌}
use lib.Signed.{◌≤ℤ◌, ◌<ℤ◌}
use Rattle.std.proofs.lemmas.Int.{ints}
use Rattle.std.specs.Prelude.{Ok, Err}
use Rattle.site.specs.declared.Rule.TheVariants.{LoadBelowZero}
use Rattle.loads.specs.Hydrogen.{hydrogen, aluminium, bicarbonate, net, greatest_level}
use Rattle.loads.specs.MaxS.{signed_max_s, load_rule, cl_max_s}
use Rattle.loads.specs.CriticalLoads.{cl_min_n}
use Rattle.loads.proofs.TermLaws.{signed_sum, leaching_net, cl_max_s_is, cl_min_n_is, cl_nut_n_is, greatest_ceiling, greatest_least, greatest_limit, net_greatest, cl_max_s_greatest}
use Rattle.loads.proofs.NetLaws.{net_is}
use Rattle.loads.proofs.MaxSLaws.{load_whole, load_decided, load_negative}
use Rattle.judgement.specs.declared.Region.{Region}
use Rattle.judgement.specs.declared.Region.TheVariants.{AcidKept, NoSulphur, Slope, Corner, SulphurOnly}
use Rattle.judgement.specs.declared.Verdict.{Verdict}
use Rattle.judgement.specs.declared.Verdict.TheVariants.{Within, Over}
use Rattle.judgement.specs.Regions.{region_number}
use Rattle.judgement.specs.Verdicts.{region, acid_exceedance, nutrient_exceedance, verdict_of, verdict, verdict_numbers}
use Rattle.judgement.specs.Balance.{Allowed, AcidCloses, Closes, NoPairCloses, Tells}
use Rattle.judgement.proofs.RegionLaws.{zero_closes, closes_zero}

-- N is at most m + X / e exactly where e × (N − m) is at most X
nutrient_zero : (N m X e : ℕ) → 0 < e → (N - (m + X / e) ≡ 0) ↔ (e * (N - m) ≤ X)
nutrient_zero N m X e p = (
  λ h. rw mul_comm ((le-div_iff_mul-le p).0 (omega arith)),
  λ h. let q : N - m ≤ X / e = (le-div_iff_mul-le p).1 (rw mul_comm at h) in omega arith,
)

-- the verdict is within exactly at region 0 with nutrient exceedance 0
number_zero : (r : Region) → region_number r ≡ 0 → r ≡ AcidKept
number_zero AcidKept h = refl
number_zero NoSulphur h = absurd (omega arith)
number_zero Slope h = absurd (omega arith)
number_zero Corner h = absurd (omega arith)
number_zero SulphurOnly h = absurd (omega arith)

-- the numbers of a verdict, for an acid exceedance that is 0 in region 0
pub numbers_of_lem : (r : Region) (a n : ℕ) → (r ≡ AcidKept → a ≡ 0) → verdict_numbers (verdict_of r a n) ≡ region_number r ∷ a ∷ n ∷ []
unfolding verdict_of verdict_numbers
numbers_of_lem r a n zero = grind (arith, nat_tests, number_zero)

within_needs : (r : Region) (a n : ℕ) → verdict_of r a n ≡ Within → (r ≡ AcidKept) × (n ≡ 0)
unfolding verdict_of
within_needs r a n h = grind (arith, nat_tests, number_zero)

within_where : {r : Region} (a : ℕ) {n : ℕ} → r ≡ AcidKept → n ≡ 0 → verdict_of r a n ≡ Within
unfolding verdict_of
within_where a {n} e z = rw (e, z)

-- ---- the acid balance and CLmaxS

-- the balance by what is lost, on ℕ: nothing is cut off
pub by_loss : (t : Terms) (x h : ℕ)
    → (pos x ≤ℤ (pos 1000 *ℤ (pos t.supply +ℤ net t h))) ↔ (x + 1000 * bicarbonate t h ≤ 1000 * (t.supply + hydrogen t h + aluminium t h))
by_loss t x h = (λ l. omega (arith, ints, net_is t h, l), λ l. omega (arith, ints, net_is t h, l))

module _ (t : Terms) (b : TermBounds t) where
  pub greatest_allowed : Allowed t (greatest_level t)
  greatest_allowed = record { least = greatest_least t b; ceiling = greatest_ceiling t; aluminium_limit = greatest_limit t }

  pub nutrient_iff : (N : ℕ) → (nutrient_exceedance t N ≡ 0) ↔ (t.e * (N - cl_min_n t) ≤ 1000 * t.L)
  unfolding nutrient_exceedance
  nutrient_iff N = rw (cl_nut_n_is t) (nutrient_zero N (cl_min_n t) (1000 * t.L) t.e b.e_least)

  -- below zero no pair closes: an allowed level brings at most the net of the greatest, and that is less than nothing
  none_closes : signed_max_s t <ℤ pos 0 → (S N : ℕ) → AcidCloses t S N → ⊥
  none_closes below S N k =
      let most = net_greatest t k.h k.allowed.least k.allowed.ceiling k.allowed.aluminium_limit in
      omega (arith, ints, k.balance, most, signed_sum t, below)

  -- from zero on the pair of no deposition closes, at the greatest level
  pub zero_closes_acid : load_rule t ≡ Ok tt → AcidCloses t 0 0
  zero_closes_acid p = record {
    u = 0;
    i = 0;
    h = greatest_level t;
    taken_up = omega arith;
    immobilised = omega arith;
    deposited = omega arith;
    allowed = greatest_allowed;
    balance = rw mul-zero (omega (arith, ints, load_whole t p, signed_sum t, leaching_net t));
  }

  pub none_by_rule : (load_rule t ≡ Err LoadBelowZero) ↔ NoPairCloses t
  none_by_rule = (λ e. none_closes (load_negative t e), λ none. load_decided t (λ p. absurd (none 0 0 (zero_closes_acid p))) (λ e. e))

-- ---- where rule 21 passes

module _ (t : Terms) (b : TermBounds t) (passed : load_rule t ≡ Ok tt) where
  module _ (S N : ℕ) where
    -- balances that close are closed by all that the site offers, at the greatest level
    pub closes_judged : Closes t S N → (region t S N ≡ AcidKept) × (nutrient_exceedance t N ≡ 0)
    unfolding region
    closes_judged k =
        let a = k.acid in
        let m = cl_min_n t in
        let rest : N - m ≤ N - a.u - a.i = omega (arith, cl_min_n_is t, a.taken_up, a.immobilised) in
        let left : t.e * (N - m) ≤ t.e * (N - a.u - a.i) = mul-le-mul_left t.e rest in
        let most = cl_max_s_greatest t passed a.h a.allowed.least a.allowed.ceiling a.allowed.aluminium_limit in
        let closed = (by_loss t (1000 * S + t.e * (N - a.u - a.i)) a.h).0 a.balance in (
          closes_zero S N (cl_max_s t) m t.e (omega (arith, left, closed, most)),
          (nutrient_iff t b N).1 (le_trans left k.nitrogen_balance),
        )

    pub judged_closes : region t S N ≡ AcidKept → nutrient_exceedance t N ≡ 0 → Closes t S N
    unfolding region
    judged_closes r z =
        let u = min N t.Nu in
        let i = min (N - u) t.Ni in
        let rest : N - u - i ≡ N - cl_min_n t = omega (arith, cl_min_n_is t) in
        record {
          acid = record {
            u = u;
            i = i;
            h = greatest_level t;
            taken_up = omega arith;
            immobilised = omega arith;
            deposited = omega arith;
            allowed = greatest_allowed t b;
            balance =
                (by_loss t (1000 * S + t.e * (N - u - i)) (greatest_level t)).1
                (rw rest (omega (arith, cl_max_s_is t passed, zero_closes S N (cl_max_s t) (cl_min_n t) t.e r)));
          };
          nitrogen_balance = rw rest ((nutrient_iff t b N).0 z);
        }

    -- demand 3, for every pair
    pub within_iff_closes : (verdict t S N ≡ Within) ↔ Closes t S N
    unfolding verdict
    within_iff_closes = (
      λ h. let p = within_needs (region t S N) (acid_exceedance t S N) (nutrient_exceedance t N) h in judged_closes p.0 p.1,
      λ k. let p = closes_judged k in within_where (acid_exceedance t S N) p.0 p.1,
    )

    -- a sign that goes by the verdict says the same
    pub verdict_tells :
        {A : Type 0} {first second : A} (sign : Verdict → A)
        → sign Within ≡ first
        → ((r : Region) (a n : ℕ) → sign (Over r a n) ≡ second)
        → (first ≡ second → ⊥)
        → Tells first second (sign (verdict t S N)) t S N
    verdict_tells {first = first} {second = second} sign w o differ = go (verdict t S N) within_iff_closes
      where
        go : (v : Verdict) → ((v ≡ Within) ↔ Closes t S N) → Tells first second (sign v) t S N
        go Within c = record {
          either = inl w;
          closes = (λ e. c.0 refl, λ k. w);
          otherwise = (λ e. absurd (differ (sym w ∙ e)), λ not. absurd (not (c.0 refl)));
        }
        go (Over r a n) c = record {
          either = inr (o r a n);
          closes = (λ e. absurd (differ (sym e ∙ o r a n)), λ k. let w = c.1 k in cc);
          otherwise = (λ e k. let w = c.1 k in cc, λ not. o r a n);
        }
