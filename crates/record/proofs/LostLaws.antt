-- Where 21 stands: the record has field 11, which its five last bytes are.
use mathlib.Core.Path.{◌≡◌, refl, sym, ap, ◌∙◌, subst}
use mathlib.Core.Bool.{false}
use mathlib.Core.List.{List, [], ◌∷◌, ◌++◌}
use Prim.Native.Nat.{ℕ, ◌+◌, ◌-◌, ◌≤◌}
use native.Mathlib.Omega.{arith}
use lib.ListN.{length, get_or, drop, length-append, length-take, length-drop}
use lib.Seq.{get_or-take, get_or-drop}
use Rattle.std.specs.Prelude.{Err}
use Rattle.std.proofs.lemmas.List.{get_or-append-add}
use Rattle.numbers.specs.TwoBytes.{word_bytes, AllBytes}
use Rattle.site.specs.Kinds.{due, has_dioxide}
use Rattle.site.specs.declared.RecordKind.{RecordKind}
use Rattle.site.specs.declared.RecordKind.TheVariants.{Tag52, Tag53, Tag54, Tag55}
use Rattle.site.specs.declared.Site.{Site}
use Rattle.site.specs.declared.Rule.{Rule}
use Rattle.site.specs.declared.Refusal.{Refusal}
use Rattle.loads.specs.SiteTerms.{terms_of}
use Rattle.loads.specs.MaxS.{load_rule}
use Rattle.loads.proofs.WithoutBicarbonateLaws.{none_counted, unlost_rule}
use Rattle.field.specs.Field.{value, site_kind}
use Rattle.field.specs.Kind.{Kind}
use Rattle.record.specs.FieldParts.{field_of}
use Rattle.record.specs.Fields.{encode_fields, encode_as}
use Rattle.record.specs.FirstFault.{LoadBroken, LostAtField}
use Rattle.record.specs.Writer.{encode}
use Rattle.record.proofs.EncodeLaws.{fields_append}
use Rattle.record.proofs.Place.{fields_bytes, fields_inside}

-- of the kinds before 55 rule 21 is never broken
lost_kind : (list : List ℕ) (s : Site) {r : Rule} → load_rule (terms_of list s) ≡ Err r → s.kind ≡ Tag55
lost_kind list s {r} e = by_kind s.kind refl
  where
    older : has_dioxide s.kind ≡ false → ⊥
    older h = let p = unlost_rule list s (none_counted list s h) in cc

    by_kind : (k : RecordKind) → s.kind ≡ k → s.kind ≡ Tag55
    by_kind Tag52 is = absurd (older (rw is))
    by_kind Tag53 is = absurd (older (rw is))
    by_kind Tag54 is = absurd (older (rw is))
    by_kind Tag55 is = is

-- a record of kind 55 ends with field 11
EndsWith11 : List ℕ → Type 0
EndsWith11 bs = (5 ≤ length bs) × (get_or bs (length bs - 5) 0 ≡ 17)

module _ (s : Site) where
  abbrev K : Kind Site
  K = site_kind [] Tag55

  abbrev before : List ℕ
  before = encode_fields K (due Tag54) s

  abbrev last : List ℕ
  last = 17 ∷ 0 ∷ 2 ∷ word_bytes s.dioxide

  last_is : encode_fields K (17 ∷ []) s ≡ last
  unfolding encode_fields value field_of
  last_is = refl

  split : encode_fields K (due Tag55) s ≡ before ++ last
  split = fields_append K s (due Tag54) (17 ∷ []) ∙ ap (λ (bs : List ℕ). before ++ bs) last_is

  abbrev head : List ℕ
  head = 85 ∷ word_bytes (length (before ++ last))

  whole : encode_as K s ≡ head ++ (before ++ last)
  unfolding encode_as field_of
  whole = ap (λ (bs : List ℕ). 85 ∷ word_bytes (length bs) ++ bs) split

  ends_with_11 : EndsWith11 (encode_as K s)
  unfolding EndsWith11
  ends_with_11 =
      let n = length before in
      let long : length (head ++ (before ++ last)) ≡ 3 + n + 5 = simp length-append (omega arith) in
      let place : length (head ++ (before ++ last)) - 5 ≡ 3 + n = omega (arith, long) in
      let none : n ≡ n + 0 = omega arith in
      let there : get_or (before ++ last) n 0 ≡ 17 = ap (λ (k : ℕ). get_or (before ++ last) k 0) none ∙ get_or-append-add before last 0 0 in
      rw whole
      (omega (arith, long), ap (λ (k : ℕ). get_or (head ++ (before ++ last)) k 0) place ∙ get_or-append-add head (before ++ last) n 0 ∙ there)

last_field : (s : Site) → s.kind ≡ Tag55 → (5 ≤ length (encode s)) × (get_or (encode s) (length (encode s) - 5) 0 ≡ 17)
unfolding EndsWith11
last_field s is = subst (λ k. EndsWith11 (encode_as (site_kind [] k) s)) (sym is) (ends_with_11 s)

-- so 21 stands at the tag of that field
pub lost_at_field : (newest : RecordKind) (list f : List ℕ) (start : ℕ) {r : Refusal} → AllBytes f → (l : LoadBroken newest list f start r) → LostAtField f l.site r.at
lost_at_field newest list f start {r} b l =
    let kind = lost_kind list l.site l.broken in
    let last = last_field l.site kind in
    let bytes = fields_bytes newest list f start l.accepted b in
    let inside = fields_inside newest list f start l.accepted in
    let long : length (encode l.site) ≡ l.next - start = rw bytes (simp (length-take, length-drop) (omega arith)) in
    let n = length (encode l.site) - 5 in
    let at : start + n ≡ r.at = omega (arith, l.offset, long, last.0) in
    let same : get_or (encode l.site) n 0 ≡ get_or f (start + n) 0 =
    ap (λ (bs : List ℕ). get_or bs n 0) bytes ∙ get_or-take (l.next - start) (drop start f) n 0 (omega (arith, long, last.0)) ∙ get_or-drop start f n 0 in
    record { kind = kind; tag = ap (λ (k : ℕ). get_or f k 0) (sym at) ∙ sym same ∙ last.1 }
