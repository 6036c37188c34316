-- The whole check: the fields' rules, then 21.
use Prim.Native.Nat.{ℕ}
use mathlib.Core.Path.{◌≡◌, refl}
use mathlib.Core.List.{List}
use Rattle.std.specs.Prelude.{Ok, Err}
use Rattle.site.specs.declared.Site.{Site}
use Rattle.site.specs.declared.Rule.{Rule}
use Rattle.site.specs.Refusal.{Checked, and_then, checked_number, Numbered, passes}
use Rattle.site.specs.Check.{due_rule}
use Rattle.site.specs.Bounds.{Bounds}
use Rattle.site.proofs.Passing.{both_passed}
use Rattle.site.proofs.BoundsLaw as Fields
use Rattle.site.proofs.NumberLaws.{numbered, known_site}
use Rattle.loads.specs.SiteTerms.{terms_of}
use Rattle.loads.specs.MaxS.{load_rule}
use Rattle.loads.specs.Check.{site_rule, SiteNumbered, by_fields, below_zero}
use Rattle.loads.proofs.MaxSLaws.{load_refused}

module _ (list : List ℕ) (s : Site) where
  pub fields_broken : (r : Rule) → due_rule list s ≡ Err r → site_rule list s ≡ Err r
  unfolding site_rule and_then
  fields_broken r e = rw e

  module _ (f : due_rule list s ≡ Ok tt) where
    -- what is left of the check
    pub fields_then : site_rule list s ≡ load_rule (terms_of list s)
    unfolding site_rule and_then
    fields_then = rw f

    pub last_passed : load_rule (terms_of list s) ≡ Ok tt → site_rule list s ≡ Ok tt
    unfolding site_rule and_then
    last_passed e = rw (f, e)

    pub last_broken : (r : Rule) → load_rule (terms_of list s) ≡ Err r → site_rule list s ≡ Err r
    unfolding site_rule and_then
    last_broken r e = rw (f, e)

  -- a site that passes
  module _ (e : site_rule list s ≡ Ok tt) where
    parts : (due_rule list s ≡ Ok tt) × (load_rule (terms_of list s) ≡ Ok tt)
    unfolding site_rule
    parts = both_passed (due_rule list s) (load_rule (terms_of list s)) e

    pub passed_fields : due_rule list s ≡ Ok tt
    passed_fields = parts.0

    pub passed_load : load_rule (terms_of list s) ≡ Ok tt
    passed_load = parts.1

    pub bounds : Bounds s
    bounds = Fields.bounds list s parts.0

  field_number : (c : Checked) → due_rule list s ≡ c → Numbered c (checked_number c)
  field_number c e = rw e at (numbered (due_rule list s) (due_rule list s) refl (known_site list s))

  load_number : (c : Checked) → load_rule (terms_of list s) ≡ c → SiteNumbered c (checked_number c)
  unfolding checked_number
  load_number (Ok tt) e = by_fields passes
  load_number (Err r) e = let only = load_refused (terms_of list s) r e in rw only below_zero

  by_parts : (a b : Checked) → due_rule list s ≡ a → SiteNumbered b (checked_number b) → SiteNumbered (and_then a b) (checked_number (and_then a b))
  unfolding and_then
  by_parts (Ok tt) b f l = l
  by_parts (Err r) b f l = by_fields (field_number (Err r) f)

  pub site_numbered : SiteNumbered (site_rule list s) (checked_number (site_rule list s))
  unfolding site_rule
  site_numbered = by_parts (due_rule list s) (load_rule (terms_of list s)) refl (load_number (load_rule (terms_of list s)) refl)
