-- The whole check of a site value with the list that is lent: rules 7 to 10 and 16 by the tags of its kind, then 21.
use Rattle.std.specs.Prelude.{ℕ, List, Err}
use Rattle.site.specs.declared.Site.{Site}
use Rattle.site.specs.declared.Rule.TheVariants.{LoadBelowZero}
use Rattle.site.specs.Refusal.{Checked, Numbered, and_then}
use Rattle.site.specs.Check.{due_rule}
use Rattle.loads.specs.SiteTerms.{terms_of}
use Rattle.loads.specs.MaxS.{load_rule}

unfoldable pub site_rule : List ℕ → Site → Checked
site_rule list s = and_then (due_rule list s) (load_rule (terms_of list s))

-- the number of what it says: 0, or one of its fields' rules, or 21
pub data SiteNumbered : Checked → ℕ → Type 0 where
  by_fields : {c : Checked} {n : ℕ} → Numbered c n → SiteNumbered c n
  below_zero : SiteNumbered (Err LoadBelowZero) 21
