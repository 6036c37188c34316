-- Where P is 0 the balances without bicarbonate close exactly where those with it do: at the greatest level, which is at least 1 and brings no less than level 0.
use Prim.Native.Nat.{ℕ, ◌+◌, ◌*◌, ◌-◌}
use mathlib.Core.Path.{◌≡◌}
use mathlib.Core.Logic.{◌↔◌}
use mathlib.Core.List.{List}
use native.Mathlib.Omega.{arith}
use Rattle.std.specs.Prelude.{Result, Ok, Err}
use Rattle.site.specs.declared.Rule.{Rule}
use Rattle.site.specs.declared.Site.{Site}
use Rattle.site.specs.Refusal.{and_then}
use Rattle.site.specs.Kinds.{counted_dioxide}
use Rattle.loads.specs.Terms.{Terms, TermBounds}
use Rattle.loads.specs.SiteTerms.{terms_of}
use Rattle.loads.specs.Check.{site_rule}
use Rattle.loads.specs.Hydrogen.{greatest_level}
use Rattle.loads.specs.WithoutBicarbonate.{NothingLost}
use Rattle.loads.proofs.TermLaws.{greatest_of_all, hydrogen_mono, aluminium_mono}
use Rattle.loads.proofs.WithoutBicarbonateLaws as Loads
use Rattle.judgement.specs.declared.Judged.{Judged}
use Rattle.judgement.specs.declared.Verdict.TheVariants.{Within}
use Rattle.judgement.specs.Answers.{judged_of}
use Rattle.judgement.specs.Balance.{Closes}
use Rattle.judgement.specs.Verdicts.{region, acid_exceedance, nutrient_exceedance, verdict}
use Rattle.judgement.specs.WithoutBicarbonate.{unlost_verdict, unlost_judgement, ClosesUnlost, Unlost}
use Rattle.judgement.proofs.Demand3.{greatest_allowed, by_loss}
use Rattle.judgement.proofs.AtSites.{site_bounds, demand_3}

module _ (t : Terms) (b : TermBounds t) (n : NothingLost t) (S N : ℕ) where
  to_unlost : Closes t S N → ClosesUnlost t S N
  to_unlost k =
      let a = k.acid in
      record {
        u = a.u;
        i = a.i;
        h = a.h;
        taken_up = a.taken_up;
        immobilised = a.immobilised;
        deposited = a.deposited;
        ceiling = a.allowed.ceiling;
        aluminium_limit = a.allowed.aluminium_limit;
        nitrogen_balance = k.nitrogen_balance;
        acid_balance = omega (arith, (by_loss t (1000 * S + t.e * (N - a.u - a.i)) a.h).0 a.balance, n.none a.h);
      }

  from_unlost : ClosesUnlost t S N → Closes t S N
  from_unlost k =
      let top = greatest_of_all t k.h k.ceiling k.aluminium_limit in
      record {
        acid = record {
          u = k.u;
          i = k.i;
          h = greatest_level t;
          taken_up = k.taken_up;
          immobilised = k.immobilised;
          deposited = k.deposited;
          allowed = greatest_allowed t b;
          balance =
              (by_loss t (1000 * S + t.e * (N - k.u - k.i)) (greatest_level t)).1
              (omega (arith, k.acid_balance, hydrogen_mono t top, aluminium_mono t top, n.none (greatest_level t)));
        };
        nitrogen_balance = k.nitrogen_balance;
      }

module _ (list : List ℕ) (s : Site) (none : counted_dioxide s ≡ 0) where
  nothing : NothingLost (terms_of list s)
  nothing = Loads.unlost list s none

  verdict_unlost : (S N : ℕ) → verdict (terms_of list s) S N ≡ unlost_verdict (terms_of list s) S N
  unfolding verdict region acid_exceedance nutrient_exceedance unlost_verdict
  verdict_unlost S N = rw nothing.max_s

  -- the answers
  pub unlost_refused : (r : Rule) → site_rule list s ≡ Err r → Err r ≡ unlost_judgement list s
  unfolding unlost_judgement and_then
  unlost_refused r e = let fields = rw (Loads.unlost_check list s none) at e in rw fields

  pub unlost_judged : site_rule list s ≡ Ok tt → (j : Judged) → j ≡ judged_of list s → Ok j ≡ unlost_judgement list s
  unfolding unlost_judgement and_then judged_of
  unlost_judged e j is =
      let fields = rw (Loads.unlost_check list s none) at e in
      rw (is, fields, Loads.loads_unlost list s none, verdict_unlost s.sulphur s.nitrogen)

module _ (list : List ℕ) (s : Site) (none : counted_dioxide s ≡ 0) (passed : site_rule list s ≡ Ok tt) where
  -- for every pair
  pub unlost_at : (S N : ℕ) → Unlost (terms_of list s) S N
  unlost_at S N =
      let t = terms_of list s in
      let b = site_bounds list s passed in
      let n = Loads.unlost list s none in
      let d = demand_3 list s passed S N in
      record {
        balances = (λ k. to_unlost t b n S N k, λ k. from_unlost t b n S N k);
        mark = (λ w. to_unlost t b n S N (d.0 w), λ k. d.1 (from_unlost t b n S N k));
      }

  -- in an answer
  pub judged_unlost : (x j : Judged) → x ≡ judged_of list s → ◌≡◌ {A = Result Judged Rule} (Ok x) (Ok j) → (j.verdict ≡ Within) ↔ ClosesUnlost (terms_of list s) s.sulphur s.nitrogen
  unfolding judged_of
  judged_unlost x j is e = let same : x ≡ j = cc in rw (← same, is) (unlost_at s.sulphur s.nitrogen).mark
