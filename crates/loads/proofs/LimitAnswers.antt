-- What an answer of the aluminium limit says of its site.
use Prim.Native.Nat.{ℕ}
use mathlib.Core.Path.{◌≡◌}
use mathlib.Core.List.{List}
use Rattle.std.specs.Prelude.{Ok, Err}
use Rattle.loads.specs.Check.{site_rule}
use Rattle.site.specs.declared.Site.{Site}
use Rattle.site.specs.declared.Rule.{Rule}
use Rattle.site.proofs.ByCheckLaws.{given_by_lem, refused_by}
use Rattle.loads.specs.SiteTerms.{terms_of}
use Rattle.loads.specs.Limits.{limit_answer}

module _ (list : List ℕ) (s : Site) where
  pub limit_given : (a : ℕ) → limit_answer list s ≡ Ok a → (site_rule list s ≡ Ok tt) × (a ≡ (terms_of list s).A)
  unfolding limit_answer
  limit_given = given_by_lem (site_rule list s) (terms_of list s).A

  pub limit_refused : (r : Rule) → limit_answer list s ≡ Err r → site_rule list s ≡ Err r
  unfolding limit_answer
  limit_refused = refused_by (site_rule list s) (terms_of list s).A
