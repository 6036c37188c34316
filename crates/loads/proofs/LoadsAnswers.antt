-- What an answer of the loads says of its site.
use mathlib.Core.Path.{◌≡◌}
use mathlib.Core.List.{List}
use Prim.Native.Nat.{ℕ}
use Rattle.std.specs.Prelude.{Ok, Err}
use Rattle.loads.specs.Check.{site_rule}
use Rattle.site.specs.declared.Site.{Site}
use Rattle.site.specs.declared.Rule.{Rule}
use Rattle.site.proofs.ByCheckLaws.{given_by_lem, refused_by}
use Rattle.loads.specs.declared.Loads.{Loads}
use Rattle.loads.specs.SiteTerms.{terms_of}
use Rattle.loads.specs.CriticalLoads.{loads_of, loads_answer}

module _ (list : List ℕ) (s : Site) where
  pub loads_given : (l : Loads) → loads_answer list s ≡ Ok l → (site_rule list s ≡ Ok tt) × (l ≡ loads_of (terms_of list s))
  unfolding loads_answer
  loads_given = given_by_lem (site_rule list s) (loads_of (terms_of list s))

  pub loads_refused : (r : Rule) → loads_answer list s ≡ Err r → site_rule list s ≡ Err r
  unfolding loads_answer
  loads_refused = refused_by (site_rule list s) (loads_of (terms_of list s))
