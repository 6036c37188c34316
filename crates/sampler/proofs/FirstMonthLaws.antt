-- The walk over the months gives the first refusal, and what stands behind them where there is none.
use Prim.Native.Nat.{ℕ, zero, suc, ◌+◌, ◌<◌, ◌≤◌}
use mathlib.Core.Path.{◌≡◌, refl, sym, ◌∙◌}
use mathlib.Core.Logic.{◌⊎◌, inl, inr}
use mathlib.Core.List.{List, [], ◌∷◌}
use native.Mathlib.Omega.{arith}
use lib.ListN.{length}
use Rattle.std.proofs.lemmas.Bool.Decides.{nat_tests}
use Rattle.std.specs.Prelude.{sum_by, Result, Ok, Err}
use Rattle.site.specs.Ranges.{deposition_range}
use Rattle.site.specs.declared.Refusal.{Refusal}
use Rattle.site.specs.Refusal.{Checked, unless}
use Rattle.loads.specs.Rounding.{up}
use Rattle.sampler.specs.MonthRules.{month_rule, sulphur_of, nitrogen_of}
use Rattle.sampler.specs.YearPair.{too_large, pair_of, months_checked, year_of}
use Rattle.sampler.specs.FirstMonth.{Pass, ByMonth, ByYear, IsPair}
use Rattle.sampler.specs.declared.Month.{Month}
use Rattle.sampler.specs.declared.Pair.{Pair}

-- the walk from index i on, as it ends: at a month, or behind all of them
data Ends (i : ℕ) (ms : List Month) (y z : Result Pair Refusal) : Type 0 where
  at_month : (r : Refusal) → ByMonth ms r → z ≡ Err (record { rule = r.rule; at = i + r.at }) → Ends i ms y z
  behind : Pass ms (length ms) → z ≡ y → Ends i ms y z

none_before : (ms : List Month) → Pass ms 0
none_before ms k h d = absurd (omega arith)

one_more : (m : Month) (ms : List Month) (n : ℕ) → month_rule m ≡ Ok tt → Pass ms n → Pass (m ∷ ms) (suc n)
one_more m ms n p q zero h d = p
one_more m ms n p q (suc k) h d = q k (omega arith) d

later : (i : ℕ) (m : Month) (ms : List Month) (y z : Result Pair Refusal) → month_rule m ≡ Ok tt → Ends (suc i) ms y z → Ends i (m ∷ ms) y z
later i m ms y z p (at_month r f e) =
    let same : suc i + r.at ≡ i + suc r.at = omega arith in
    at_month (record { rule = r.rule; at = suc r.at }) (record { inside = let h = f.inside in omega arith; before = one_more m ms r.at p f.before; broken = f.broken }) (rw same at e)
later i m ms y z p (behind q e) = behind (one_more m ms (length ms) p q) e

ends : (i : ℕ) (ms : List Month) (y : Result Pair Refusal) → Ends i ms y (months_checked i ms y)
unfolding unless
ends i [] y = behind (none_before []) refl
ends i (m ∷ ms) y = go (month_rule m) refl (ends (suc i) ms y)
  where
    go : (c : Checked) → month_rule m ≡ c → Ends (suc i) ms y (months_checked (suc i) ms y) → Ends i (m ∷ ms) y (unless c i (months_checked (suc i) ms y))
    go (Ok tt) e rest = later i m ms y (months_checked (suc i) ms y) e rest
    go (Err rule) e rest =
        let same : i + 0 ≡ i = omega arith in
        at_month (record { rule = rule; at = 0 }) (record { inside = omega arith; before = none_before (m ∷ ms); broken = λ d. e }) (rw same)

-- behind the months
refused_pair : (S N : ℕ) (r : Refusal) → pair_of S N ≡ Err r → (too_large ≡ r) × ((deposition_range.most < S) ⊎ (deposition_range.most < N))
refused_pair S N r e = (grind (arith, nat_tests), grind (arith, nat_tests))

given_pair : (S N : ℕ) (p : Pair) → pair_of S N ≡ Ok p → (p.sulphur ≡ S) × (p.nitrogen ≡ N) × (S ≤ deposition_range.most) × (N ≤ deposition_range.most)
given_pair S N p e = (grind (arith, nat_tests), grind (arith, nat_tests), grind (arith, nat_tests), grind (arith, nat_tests))

module _ (ms : List Month) where
  abbrev S : ℕ
  S = up (sum_by sulphur_of ms) 1600

  abbrev N : ℕ
  N = up (sum_by nitrogen_of ms) 1400

  pub year_refused : {r : Refusal} → year_of ms ≡ Err r → ByMonth ms r ⊎ ByYear ms r
  unfolding year_of
  year_refused {r} e = go (ends 0 ms (pair_of S N))
    where
      go : Ends 0 ms (pair_of S N) (months_checked 0 ms (pair_of S N)) → ByMonth ms r ⊎ ByYear ms r
      go (at_month q f w) =
          let here : 0 + q.at ≡ q.at = omega arith in
          let g = rw here at w in
          let same : q ≡ r = cc in
          inl (rw same at f)
      go (behind b q) =
          let w = refused_pair S N r (sym q ∙ e) in
          inr (record { before = b; is_14 = cc; at_12 = cc; large = w.1 })

  pub year_pair_is : {p : Pair} → year_of ms ≡ Ok p → IsPair ms p
  unfolding year_of
  year_pair_is {p} e = go (ends 0 ms (pair_of S N))
    where
      go : Ends 0 ms (pair_of S N) (months_checked 0 ms (pair_of S N)) → IsPair ms p
      go (at_month r f w) = absurd (cc (sym e ∙ w))
      go (behind b q) =
          let w = given_pair S N p (sym q ∙ e) in
          record { before = b; sulphur = w.0; nitrogen = w.1; most_sulphur = rw w.0 w.2; most_nitrogen = rw w.1 w.3 }
