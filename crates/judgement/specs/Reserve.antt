-- Demand 3 at a reserve (document 02, E8). Its statement is that of every site: u is at most Nu, which is 0 at a reserve. So where the balances close, whatever the
-- pair, they close with u = 0 and with no other u.
use Rattle.std.specs.Prelude.{ℕ, ◌≡◌, ◌↔◌, List, Ok}
use Rattle.site.specs.declared.Site.{Site}
use Rattle.loads.specs.Check.{site_rule}
use Rattle.site.specs.Reserve.{Reserve}
use Rattle.loads.specs.Terms.{Terms}
use Rattle.loads.specs.SiteTerms.{terms_of}
use Rattle.judgement.specs.declared.Verdict.TheVariants.{Within}
use Rattle.judgement.specs.Verdicts.{verdict}
use Rattle.judgement.specs.Balance.{Closes}

-- the same balances close, with no uptake
pub record ClosesUntaken (t : Terms) (S N : ℕ) : Type 0 where
  pub closes : Closes t S N
  pub untaken : closes.acid.u ≡ 0

pub record AtReserve (list : List ℕ) (s : Site) : Type 0 where
  pub closing : (S N : ℕ) (k : Closes (terms_of list s) S N) → k.acid.u ≡ 0
  -- so a reserve that passes the check is within exactly where they close with no uptake
  pub mark : site_rule list s ≡ Ok tt → (S N : ℕ) → (verdict (terms_of list s) S N ≡ Within) ↔ ClosesUntaken (terms_of list s) S N

abbrev pub AtReserves : Type 0
AtReserves = (list : List ℕ) (s : Site) → Reserve s → AtReserve list s
