-- At a reserve the balances close with no uptake alone.
use Prim.Native.Nat.{ℕ}
use mathlib.Core.Path.{◌≡◌}
use mathlib.Core.List.{List}
use native.Mathlib.Omega.{arith}
use Rattle.site.specs.declared.Site.{Site}
use Rattle.site.specs.Reserve.{Reserve}
use Rattle.loads.specs.SiteTerms.{terms_of}
use Rattle.loads.proofs.ReserveLaws.{no_uptake}
use Rattle.judgement.specs.Balance.{Closes}
use Rattle.judgement.specs.Reserve.{AtReserves}
use Rattle.judgement.proofs.AtSites.{demand_3}

untaken : (list : List ℕ) (s : Site) → Reserve s → {S N : ℕ} (k : Closes (terms_of list s) S N) → k.acid.u ≡ 0
untaken list s r k = omega (arith, k.acid.taken_up, (no_uptake list s r).nitrogen)

pub at_reserve : AtReserves
at_reserve list s r = record {
  closing = λ S N k. untaken list s r k;
  mark = λ p S N. (
    λ w. let k = (demand_3 list s p S N).0 w in record { closes = k; untaken = untaken list s r k },
    λ c. (demand_3 list s p S N).1 c.closes,
  );
}
