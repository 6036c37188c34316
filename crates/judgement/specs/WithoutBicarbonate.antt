-- What is judged where no bicarbonate is leached: the answer by the loads of all the hydrogen and aluminium, and the balances with level 0 among the levels. Where P
-- is 0 the answer is this one, and these balances close exactly where those of `Balance.antt` do.
use Rattle.std.specs.Prelude.{ℕ, ◌+◌, ◌*◌, ◌-◌, ◌≤◌, ◌≡◌, ◌↔◌, List, Result, Ok}
use Rattle.site.specs.declared.Rule.{Rule}
use Rattle.site.specs.declared.Site.{Site}
use Rattle.site.specs.Refusal.{and_then}
use Rattle.site.specs.Check.{due_rule}
use Rattle.loads.specs.SiteTerms.{terms_of}
use Rattle.loads.specs.CriticalLoads.{cl_min_n, cl_nut_n}
use Rattle.loads.specs.WithoutBicarbonate.{unlost_max_s, unlost_loads}
use Rattle.judgement.specs.declared.Judged.{Judged}
use Rattle.judgement.specs.declared.Verdict.{Verdict}
use Rattle.judgement.specs.Regions.{region_of, acid_of}
use Rattle.loads.specs.Terms.{Terms}
use Rattle.loads.specs.Hydrogen.{hydrogen, aluminium}
use Rattle.judgement.specs.declared.Verdict.TheVariants.{Within}
use Rattle.judgement.specs.Verdicts.{verdict_of, verdict}
use Rattle.judgement.specs.Balance.{Closes}

unfoldable pub unlost_verdict : Terms → (S N : ℕ) → Verdict
unlost_verdict t S N =
    let c = unlost_max_s t in
    let m = cl_min_n t in
    verdict_of (region_of S N c m t.e) (acid_of S N c m t.e) (N - cl_nut_n t)

-- the loads and the verdict on the site's own pair, or the first rule that a field breaks
unfoldable pub unlost_judgement : List ℕ → Site → Result Judged Rule
unlost_judgement list s =
    let t = terms_of list s in
    and_then (due_rule list s) (Ok (record { loads = unlost_loads t; verdict = unlost_verdict t s.sulphur s.nitrogen }))

pub record ClosesUnlost (t : Terms) (S N : ℕ) : Type 0 where
  pub u : ℕ
  pub i : ℕ
  pub h : ℕ
  pub taken_up : u ≤ t.Nu
  pub immobilised : i ≤ t.Ni
  pub deposited : u + i ≤ N
  pub ceiling : h ≤ t.H
  pub aluminium_limit : aluminium t h ≤ t.A
  pub nitrogen_balance : t.e * (N - u - i) ≤ 1000 * t.L
  pub acid_balance : 1000 * S + t.e * (N - u - i) ≤ 1000 * (t.supply + hydrogen t h + aluminium t h)

pub record Unlost (t : Terms) (S N : ℕ) : Type 0 where
  pub balances : Closes t S N ↔ ClosesUnlost t S N
  pub mark : (verdict t S N ≡ Within) ↔ ClosesUnlost t S N
