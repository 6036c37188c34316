-- How a site gives each term, with the list of species that is lent.
use Rattle.std.specs.Prelude.{ℕ, List}
use Rattle.site.specs.declared.Site.{Site}
use Rattle.site.specs.Kinds.{counted_dioxide}
use Rattle.loads.specs.Terms.{Terms}
use Rattle.loads.specs.Uptake.{nitrogen_uptake}
use Rattle.loads.specs.Supply.{base_supply, aluminium_limit}
use Rattle.loads.specs.Nitrogen.{undenitrified, leaching}

unfoldable pub terms_of : List ℕ → Site → Terms
terms_of list s = record {
  Nu = nitrogen_uptake list s;
  Ni = s.immobilisation;
  supply = base_supply list s;
  A = aluminium_limit list s;
  Q = s.percolation;
  K = s.gibbsite;
  H = s.ceiling;
  e = undenitrified s;
  L = leaching s;
  P = counted_dioxide s;
}
