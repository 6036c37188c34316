-- Laws of the fields that are read one after another.
use mathlib.Core.Path.{◌≡◌, refl, sym, ap, ◌∙◌}
use mathlib.Core.List.{List}
use Prim.Native.Nat.{ℕ, ◌+◌, ◌-◌, ◌≤◌, ◌<◌}
use lib.Dec.{eqb}
use lib.ListN.{length, take, drop}
use Rattle.std.specs.Prelude.{Ok, Err}
use Rattle.site.specs.declared.Site.{Site}
use Rattle.site.specs.declared.RecordKind.{RecordKind}
use Rattle.site.specs.declared.Rule.TheVariants.{InnerTag}
use Rattle.site.specs.Choice.{pick}
use Rattle.site.specs.Kinds.{due}
use Rattle.site.proofs.Tags.{tags_from}
use Rattle.field.specs.Kind.{field_rule}
use Rattle.field.specs.Field.{site_kind, blank_of, taken}
use Rattle.field.proofs.TakenLaws.{blank_kind, taken_kind}
use Rattle.record.specs.FieldParts.{stated_len}
use Rattle.record.specs.Fields.{head_rule, walk_fields, fields_in}
use Rattle.record.specs.Reading.{still_read}
use Rattle.record.specs.declared.reading.Reading.{Reading}
use Rattle.record.proofs.WalkLaws.{tag_first, tag_next, tag_none}

-- a field that was good: the definition's walk goes on from the site so far, at the bytes that are left
pub took : (list : List ℕ) (t : ℕ) (s y : Site) (bs : List ℕ) (at end : ℕ) → t ≤ length (due s.kind) → head_rule t bs ≡ Ok tt → end ≡ 3 + stated_len bs
    → field_rule (site_kind list s.kind) t (take (end - 3) (drop 3 bs)) s ≡ Ok tt → y ≡ taken s.kind t (take (end - 3) (drop 3 bs)) s
    → walk_fields (site_kind list y.kind) (tags_from (length (due y.kind)) (t + 1)) y (take (length bs - end) (drop end bs)) (at + end)
    ≡ walk_fields (site_kind list s.kind) (tags_from (length (due s.kind)) t) s bs at
took list t s y bs at end inside ok is_end passed is =
    let k : y.kind ≡ s.kind = ap (λ (x : Site). x.kind) is ∙ taken_kind _ _ _ _ in
    ap (λ j. walk_fields (site_kind list j) (tags_from (length (due j)) (t + 1)) y (take (length bs - end) (drop end bs)) (at + end)) k
    ∙ ap (λ (x : Site). walk_fields (site_kind list s.kind) (tags_from (length (due s.kind)) (t + 1)) x (take (length bs - end) (drop end bs)) (at + end)) is
    ∙ sym (tag_next list s.kind (length (due s.kind)) s bs at t inside ok end is_end refl passed)

-- ---- the end: no tag is due, and no byte may be left

pub none_due : (list : List ℕ) (t : ℕ) (r : Reading) → length (due r.site.kind) < t
    → still_read list t r ≡ pick (eqb (length r.bytes.now) 0) (Ok r.site) (Err (record { rule = InnerTag; at = r.at }))
none_due list t r past = tag_none list r.site.kind (length (due r.site.kind)) r.site r.bytes.now r.at t past

-- ---- the start, from the blank site of the kind

pub first_read : (list : List ℕ) (k : RecordKind) (s : Site) (bs : List ℕ) (at : ℕ) → s ≡ blank_of k
    → walk_fields (site_kind list s.kind) (tags_from (length (due s.kind)) 1) s bs at ≡ fields_in (site_kind list k) bs at
first_read list k s bs at is =
    let of : s.kind ≡ k = ap (λ (x : Site). x.kind) is ∙ blank_kind k in
    ap (λ j. walk_fields (site_kind list j) (tags_from (length (due j)) 1) s bs at) of
    ∙ ap (λ (x : Site). walk_fields (site_kind list k) (tags_from (length (due k)) 1) x bs at) is
    ∙ sym (tag_first list k bs at)
