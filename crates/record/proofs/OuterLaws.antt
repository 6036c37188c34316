-- Laws of the site's record at an offset, as the code makes it.
use mathlib.Core.Path.{◌≡◌, refl}
use mathlib.Core.Bool.{false≢true}
use mathlib.Core.List.{List, []}
use Prim.Native.Nat.{ℕ, ◌+◌, ◌-◌, ◌≤◌}
use native.Mathlib.Nat.{add-sub_cancel_left, add_assoc}
use lib.ListN.{length, get_or, take, drop, drop_of_length-le}
use Rattle.std.specs.Prelude.{Result, Ok, Err}
use Rattle.site.specs.declared.Site.{Site}
use Rattle.site.specs.declared.Refusal.{Refusal}
use Rattle.site.specs.declared.Rule.{Rule}
use Rattle.site.specs.declared.Rule.TheVariants.{OuterCut}
use Rattle.field.specs.Field.{site_kind}
use Rattle.site.specs.Refusal.{Checked, and_then, unless}
use Rattle.site.proofs.ByCheckLaws.{then_ok}
use Rattle.site.specs.declared.RecordKind.{RecordKind}
use Rattle.site.specs.declared.RecordKind.TheVariants.{Tag55}
use Rattle.site.specs.Kinds.{kind_by}
use Rattle.record.specs.FieldParts.{stated_len}
use Rattle.record.specs.Fields.{fields_in}
use Rattle.record.specs.Records.{outer_rule, ending, record_in}
use Rattle.site.specs.Check.{due_rule}
use Rattle.loads.specs.SiteTerms.{terms_of}
use Rattle.loads.specs.MaxS.{load_rule}
use Rattle.record.specs.Outer.{known_to, site_kinds, fields_at, dioxide_length, with_load, site_to, found_of, record_at}
use Rattle.record.proofs.RecordLaws.{outer_passed}
use Rattle.record.proofs.LoadRuleLaws.{ok_with, err_with, broken_with}
use Rattle.record.proofs.SiteTrips.{walked_passes}

module _ (newest : RecordKind) where
  -- no byte is left at the offset
  outer_past : (f : List ℕ) (at : ℕ) → length f ≤ at → outer_rule (known_to newest) (drop at f) ≡ Err OuterCut
  unfolding outer_rule
  outer_past f at h = let e : drop at f ≡ [] = drop_of_length-le f {i = at} h in rw e

  pub site_past : (list f : List ℕ) (at : ℕ) → length f ≤ at → site_to newest list f at ≡ Err (record { rule = OuterCut; at = at })
  unfolding site_to fields_at record_in unless with_load
  site_past list f at h = rw (outer_past f at h)

  -- an outer field that passes lies within the bytes at whose front it stands
  outer_fits : (bs : List ℕ) → outer_rule (known_to newest) bs ≡ Ok tt → 3 + stated_len bs ≤ length bs
  outer_fits bs e = (outer_passed (known_to newest) bs e).inside

  -- where the code's reading of an outer field at the front of the bytes bs refuses it
  kind_refused : (c : Checked) (q : Result RecordKind Rule) (r : Rule) → (c ≡ Ok tt → q ≡ Err r → ⊥) → and_then c q ≡ Err r → c ≡ Err r
  unfolding and_then
  kind_refused (Ok tt) q r clash e = absurd (clash refl e)
  kind_refused (Err k) q r clash e = cc

  kind_broken : (bs : List ℕ) (r : Rule) → and_then (outer_rule (known_to newest) bs) (kind_by (get_or bs 0 0)) ≡ Err r → outer_rule (known_to newest) bs ≡ Err r
  unfolding known_to
  kind_broken bs r = kind_refused (outer_rule (known_to newest) bs) (kind_by (get_or bs 0 0)) r (λ c q. false≢true (rw q at (outer_passed (known_to newest) bs c).tag))

  -- and where it gives the kind
  record KindRead (list bs : List ℕ) (k : RecordKind) : Type 0 where
    passed : outer_rule (known_to newest) bs ≡ Ok tt
    kind : site_kinds list (get_or bs 0 0) ≡ site_kind list k

  kind_read : (list bs : List ℕ) (k : RecordKind) → and_then (outer_rule (known_to newest) bs) (kind_by (get_or bs 0 0)) ≡ Ok k → KindRead list bs k
  unfolding site_kinds
  kind_read list bs k e =
      let p = then_ok (outer_rule (known_to newest) bs) (kind_by (get_or bs 0 0)) e in
      record { passed = p.0; kind = rw p.1 }

  -- so the field lies within the bytes
  pub kind_fits : (bs : List ℕ) (k : RecordKind) → and_then (outer_rule (known_to newest) bs) (kind_by (get_or bs 0 0)) ≡ Ok k → 3 + stated_len bs ≤ length bs
  kind_fits bs k e = outer_fits bs (then_ok (outer_rule (known_to newest) bs) (kind_by (get_or bs 0 0)) e).0

  -- the bytes bs that are left at the offset
  module _ (list f : List ℕ) (at : ℕ) (bs : List ℕ) (is : bs ≡ drop at f) where
    pub fields_broken : (r : Rule) → and_then (outer_rule (known_to newest) bs) (kind_by (get_or bs 0 0)) ≡ Err r → fields_at newest list f at ≡ Err (record { rule = r; at = at })
    unfolding fields_at record_in unless
    fields_broken r e = rw (← is, kind_broken bs r e)

    module _ (k : RecordKind) (read : and_then (outer_rule (known_to newest) bs) (kind_by (get_or bs 0 0)) ≡ Ok k) (end : ℕ) (is_end : end ≡ 3 + stated_len bs) where
      here : KindRead list bs k
      here = kind_read list bs k read

      fields_read : (q : Result Site Refusal) → fields_in (site_kind list k) (take (end - 3) (drop 3 bs)) (at + 3) ≡ q → fields_at newest list f at ≡ ending (at + end) q
      unfolding fields_at record_in unless
      fields_read q e = let p = rw (is_end, add-sub_cancel_left) at e in rw (← is, here.passed, here.kind, p, is_end, add_assoc)

      pub fields_refused : (r : Refusal) → fields_in (site_kind list k) (take (end - 3) (drop 3 bs)) (at + 3) ≡ Err r → fields_at newest list f at ≡ Err r
      unfolding ending
      fields_refused r e = fields_read (Err r) e

      module _ (s : Site) (e : fields_in (site_kind list k) (take (end - 3) (drop 3 bs)) (at + 3) ≡ Ok s) where
        -- a site that was read passes the rules of its fields
        pub fields_pass : due_rule list s ≡ Ok tt
        fields_pass = walked_passes list k s _ _ e

        pub fields_whole : fields_at newest list f at ≡ Ok (s, at + end)
        unfolding ending
        fields_whole = fields_read (Ok s) e

-- ---- what the call gives, by the fields and rule 21

module _ (list f : List ℕ) (at : ℕ) where
  pub record_refused : {r : Refusal} → fields_at Tag55 list f at ≡ Err r → record_at list f at ≡ Err r
  unfolding site_to found_of
  record_refused e = rw (err_with list e)

  module _ {x : Site × ℕ} (e : fields_at Tag55 list f at ≡ Ok x) where
    pub record_lost : (r : Refusal) → load_rule (terms_of list x.0) ≡ Err r.rule → r.at ≡ x.1 - dioxide_length → record_at list f at ≡ Err r
    unfolding site_to found_of
    record_lost r l o = rw (broken_with list e l, ← o)

    pub record_whole : load_rule (terms_of list x.0) ≡ Ok tt → record_at list f at ≡ Ok (record { site = x.0; next = x.1 })
    unfolding site_to found_of
    record_whole l = rw (ok_with list e l)
