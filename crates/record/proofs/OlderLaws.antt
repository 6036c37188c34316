-- A reader of kinds up to 54 gives what one of all kinds gives, of records that are none of kind 55.
use Prim.Native.Nat.{ℕ, ◌≤◌}
use mathlib.Core.Path.{◌≡◌, refl, sym, ◌∙◌}
use mathlib.Core.Bool.{Bool, true, false}
use mathlib.Core.List.{List}
use native.Mathlib.Omega.{arith}
use borrow.Author.Tests.{le-leb}
use lib.ListN.{length, get_or, drop}
use Rattle.std.specs.Prelude.{Ok}
use Rattle.site.specs.Ranges.{most_records}
use Rattle.site.specs.Kinds.{kind_tag, has_dioxide}
use Rattle.site.specs.declared.RecordKind.{RecordKind}
use Rattle.site.specs.declared.RecordKind.TheVariants.{Tag52, Tag53, Tag54, Tag55}
use Rattle.site.specs.declared.Site.{Site}
use Rattle.field.specs.Kind.{Kind}
use Rattle.field.proofs.All.{All}
use Rattle.record.specs.Records.{outer_rule, record_in}
use Rattle.record.specs.Outer.{known_to, site_kinds, fields_at, site_to, site_at}
use Rattle.record.specs.File.{contents_to, contents}
use Rattle.record.proofs.FileLaws.{contents_every, contents_same}
use Rattle.record.proofs.LoadRuleLaws.{ok_with}
use Rattle.record.proofs.Place.{kind_is, fields_ok, fields_kind, fields_old}

-- a record without field 11
abbrev pub Older : Site → Type 0
Older s = has_dioxide s.kind ≡ false

old_kind : (k : RecordKind) → kind_tag k ≤ kind_tag Tag54 → has_dioxide k ≡ false
old_kind Tag52 l = refl
old_kind Tag53 l = refl
old_kind Tag54 l = refl
old_kind Tag55 l = absurd (omega arith)

kind_old : (k : RecordKind) → has_dioxide k ≡ false → kind_tag k ≤ kind_tag Tag54
kind_old Tag52 e = omega arith
kind_old Tag53 e = omega arith
kind_old Tag54 e = omega arith
kind_old Tag55 e = cc

-- two readers that both know an outer tag, or both do not
outer_same : (known other : ℕ → Bool) (bs : List ℕ) → known (get_or bs 0 0) ≡ other (get_or bs 0 0) → outer_rule known bs ≡ outer_rule other bs
unfolding outer_rule
outer_same known other bs e = rw e

record_same : {A : Type 0} (known other : ℕ → Bool) (kind : ℕ → Kind A) (bs : List ℕ) (at : ℕ) → known (get_or bs 0 0) ≡ other (get_or bs 0 0)
    → record_in known kind bs at ≡ record_in other kind bs at
unfolding record_in
record_same known other kind bs at e = rw (outer_same known other bs e)

known_again : (k : RecordKind) (newest : RecordKind) → kind_tag k ≤ kind_tag newest → known_to newest (kind_tag k) ≡ true
unfolding known_to
known_again Tag52 newest l = le-leb 82 (kind_tag newest) l
known_again Tag53 newest l = le-leb 83 (kind_tag newest) l
known_again Tag54 newest l = le-leb 84 (kind_tag newest) l
known_again Tag55 newest l = le-leb 85 (kind_tag newest) l

-- a record that a reader takes, another takes that knows its kind
module _ (newest other : RecordKind) (list f : List ℕ) (at : ℕ) {x : Site × ℕ} (e : fields_at newest list f at ≡ Ok x) (old : kind_tag x.0.kind ≤ kind_tag other) where
  both_known : known_to newest (get_or (drop at f) 0 0) ≡ known_to other (get_or (drop at f) 0 0)
  both_known =
      let k = kind_is newest list f at e in
      let is = fields_kind newest list f at e in
      rw (← k.tag) (known_again k.kind newest k.old ∙ sym (known_again k.kind other (rw is at old)))

  pub fields_other : fields_at other list f at ≡ Ok x
  unfolding fields_at
  fields_other = sym (record_same (known_to newest) (known_to other) (site_kinds list) (drop at f) at both_known) ∙ e

module _ (list f : List ℕ) where
  older_is : (at : ℕ) (x : Site × ℕ) → site_to Tag54 list f at ≡ Ok x → site_at list f at ≡ Ok x
  unfolding site_to
  older_is at x e =
      let p = fields_ok Tag54 list f at e in
      let old = fields_old Tag54 list f at p.0 in
      ok_with list (fields_other Tag54 Tag55 list f at p.0 (omega (arith, old))) p.1

  is_older : (at : ℕ) (x : Site × ℕ) → site_at list f at ≡ Ok x → Older x.0 → site_to Tag54 list f at ≡ Ok x
  unfolding site_to
  is_older at x e o =
      let p = fields_ok Tag55 list f at e in
      ok_with list (fields_other Tag55 Tag54 list f at p.0 (kind_old x.0.kind o)) p.1

  each_older : (at : ℕ) (x : Site × ℕ) → site_to Tag54 list f at ≡ Ok x → Older x.0
  each_older at x e = old_kind x.0.kind (fields_old Tag54 list f at (fields_ok Tag54 list f at e).0)

  -- so of a file: what the one gives, none of kind 55, the other gives
  pub older_contents : (ss : List Site) → contents_to Tag54 list f ≡ Ok ss → (contents list f ≡ Ok ss) × All Older ss
  unfolding contents_to
  older_contents ss e =
      let all = (contents_every (site_to Tag54 list f) (length f) Older each_older most_records ss e).1 in
      (contents_same (site_to Tag54 list f) (site_at list f) (length f) Older (λ at x r o. older_is at x r) most_records ss e all, all)

  -- and back
  pub contents_older : (ss : List Site) → contents list f ≡ Ok ss → All Older ss → contents_to Tag54 list f ≡ Ok ss
  unfolding contents_to
  contents_older ss e all = contents_same (site_at list f) (site_to Tag54 list f) (length f) Older is_older most_records ss e all
