-- Laws of a field taken into a site.
use mathlib.Core.Path.{◌≡◌, refl}
use mathlib.Core.Bool.{Bool, true, false}
use mathlib.Core.List.{List}
use Prim.Native.Nat.{ℕ}
use lib.ListN.{length}
use Rattle.std.specs.Prelude.{Ok, Err}
use Rattle.site.specs.declared.Rule.TheVariants.{BadLength}
use Rattle.site.specs.declared.RecordKind.{RecordKind}
use Rattle.site.specs.declared.Site.{Site}
use Rattle.site.specs.Choice.{pick}
use Rattle.site.specs.Refusal.{Checked, checked_number, Numbered}
use Rattle.site.specs.Values.{length_permitted, value_rule}
use Rattle.site.proofs.NumberLaws.{known, numbered, known_pick, known_value}
use Rattle.field.specs.Field.{store, blank_of, site_kind, taken}
use Rattle.field.specs.Kind.{field_rule}
use Rattle.field.proofs.KindLaws.{parts_passed}

-- a field leaves the kind
pub store_kind : (k : RecordKind) (t : ℕ) (v : List ℕ) (s : Site) → (store k t v s).kind ≡ s.kind
unfolding store
store_kind k t v s = refl

pub taken_kind : (k : RecordKind) (t : ℕ) (v : List ℕ) (s : Site) → (taken k t v s).kind ≡ s.kind
unfolding taken
taken_kind k t v s = by_length (length_permitted k t (length v))
  where
    by_length : (b : Bool) → (pick b (store k t v s) s).kind ≡ s.kind
    by_length true = store_kind k t v s
    by_length false = refl

-- the kind that reading starts from
pub blank_kind : (k : RecordKind) → (blank_of k).kind ≡ k
unfolding blank_of
blank_kind k = refl

module _ (list : List ℕ) (t : ℕ) (v : List ℕ) (s : Site) where
  pub known_field : known (field_rule (site_kind list s.kind) t v s) ≡ true
  unfolding field_rule known
  known_field =
      known_pick (length_permitted s.kind t (length v)) (value_rule list s.kind t (store s.kind t v s)) (Err BadLength) (known_value list s.kind t (store s.kind t v s)) refl

  -- the number of what is answered is that of the rules
  pub field_numbered : (r : Checked) → r ≡ field_rule (site_kind list s.kind) t v s → Numbered (field_rule (site_kind list s.kind) t v s) (checked_number r)
  field_numbered r e = rw e (numbered _ _ refl known_field)

  -- a field that passes stands in the site
  pub taken_ok : (k : RecordKind) → field_rule (site_kind list k) t v s ≡ Ok tt → taken k t v s ≡ store k t v s
  unfolding taken
  taken_ok k e = rw (parts_passed (site_kind list k) t v s e).0
