-- Laws of a record's bytes: its fields one after another, for every kind, and the length of a site's record.
use mathlib.Core.Path.{◌≡◌, refl, sym, ap, ◌∙◌}
use mathlib.Core.List.{List, ◌∷◌, [], ◌++◌}
use Prim.Native.Nat.{ℕ, ◌+◌, ◌-◌, ◌*◌, ◌/◌, ◌%◌, ◌≤◌}
use native.Mathlib.Omega.{arith}
use lib.ListN.{length, take, length-append, length-take}
use Rattle.site.specs.declared.Site.{Site}
use Rattle.std.specs.Prelude.{flat_map}
use Rattle.site.specs.declared.RecordKind.{RecordKind}
use Rattle.site.specs.declared.RecordKind.TheVariants.{Tag52, Tag53, Tag54, Tag55}
use Rattle.site.specs.Kinds.{kind_tag, due, entry_width}
use Rattle.record.specs.FieldParts.{field_of}
use Rattle.field.specs.Field.{entries_bytes, value, site_kind}
use Rattle.field.specs.Kind.{Kind}
use Rattle.record.specs.Fields.{encode_fields, encode_as}
use Rattle.field.specs.Clean.{Sized}
use Rattle.record.specs.Writer.{encode, most_site_record, added_length}
use Rattle.output.specs.Writing.{Wrote, WroteIf}
use Rattle.output.proofs.WritingLaws.{then, kept, wrote_some}
use Rattle.std.proofs.lemmas.List.{append_assoc}
use Rattle.site.proofs.Tags.{tags_from, tags_more, due_tags}
use Rattle.field.proofs.EntryLaws.{length_entries}

-- head, then value: the field
pub field_wrote : {l b c : List ℕ} {at n q r : ℕ} (t : ℕ) (v : List ℕ) → n ≡ length v
    → Wrote l at (t ∷ (n / 256) ∷ (n % 256) ∷ []) b q → Wrote b q v c r → Wrote l at (field_of t v) c r
unfolding field_of
field_wrote {n = n} t v e h w = rw e at (then h w)

-- the same by a call that puts the value where there is room
pub field_put : {l b c : List ℕ} {at n q r : ℕ} (t : ℕ) (v w : List ℕ) → at + length (field_of t v) ≤ length l → w ≡ v → n ≡ length w
    → Wrote l at (t ∷ (n / 256) ∷ (n % 256) ∷ []) b q → WroteIf b q w c r → Wrote l at (field_of t v) c r
unfolding field_of
field_put {n = n} t v w h same e head put =
    let len : n ≡ length v = e ∙ ap length same in
    field_wrote t v len head (rw same at (put.fits (omega (arith, h, head.next, kept head, ap length same))))

pub fields_long : {A : Type 0} (K : Kind A) (x : A) (last t : ℕ) → t ≤ last
    → length (encode_fields K (tags_from last t) x) ≡ length (field_of t (K.bytes t x)) + length (encode_fields K (tags_from last (t + 1)) x)
unfolding encode_fields
fields_long K x last t h = rw (tags_more last t h) (length-append (field_of t (K.bytes t x)) (encode_fields K (tags_from last (t + 1)) x))

-- no list has a part in the bytes
pub fields_same : (list : List ℕ) (k : RecordKind) (ts : List ℕ) (s : Site) → encode_fields (site_kind list k) ts s ≡ encode_fields (site_kind [] k) ts s
unfolding encode_fields
fields_same list k [] s = refl
fields_same list k (t ∷ ts) s = ap (λ (l : List ℕ). field_of t (value k t s) ++ l) (fields_same list k ts s)

pub encode_same : (list : List ℕ) (k : RecordKind) (s : Site) → encode_as (site_kind list k) s ≡ encode_as (site_kind [] k) s
unfolding encode_as
encode_same list k s = ap (field_of (kind_tag k)) (fields_same list k (due k) s)

-- all the fields of a site's record
pub fields_first : (s : Site) → encode_fields (site_kind [] s.kind) (due s.kind) s ≡ encode_fields (site_kind [] s.kind) (tags_from (length (due s.kind)) 1) s
fields_first s = ap (λ ts. encode_fields (site_kind [] s.kind) ts s) (due_tags s.kind)

-- a field, then the others
pub fields_more : {A : Type 0} (K : Kind A) (x : A) {l b c : List ℕ} {at q r : ℕ} (last t : ℕ) → t ≤ last
    → Wrote l at (field_of t (K.bytes t x)) b q → Wrote b q (encode_fields K (tags_from last (t + 1)) x) c r → Wrote l at (encode_fields K (tags_from last t) x) c r
unfolding encode_fields
fields_more K x last t h v w = rw (tags_more last t h) (then v w)

module _ {A : Type 0} (K : Kind A) (s : A) where
  abbrev pub field_at : ℕ → List ℕ
  field_at t = field_of t (K.bytes t s)

  -- the fields, one after another
  pub fields_each : (ts : List ℕ) → encode_fields K ts s ≡ flat_map field_at ts
  unfolding encode_fields
  fields_each [] = refl
  fields_each (t ∷ ts) = ap (λ (l : List ℕ). field_at t ++ l) (fields_each ts)

  pub fields_append : (ts us : List ℕ) → encode_fields K (ts ++ us) s ≡ encode_fields K ts s ++ encode_fields K us s
  unfolding encode_fields
  fields_append [] us = refl
  fields_append (t ∷ ts) us = rw (fields_append ts us) (sym (append_assoc (field_of t (K.bytes t s)) (encode_fields K ts s) (encode_fields K us s)))

  pub encode_length : length (encode_as K s) ≡ 3 + length (encode_fields K K.due s)
  unfolding encode_as field_of
  encode_length = omega arith

  -- head, then fields: the record
  pub encode_wrote : {l b c : List ℕ} {at n q r : ℕ} → n ≡ length (encode_fields K K.due s)
      → Wrote l at (K.tag ∷ (n / 256) ∷ (n % 256) ∷ []) b q → Wrote b q (encode_fields K K.due s) c r → Wrote l at (encode_as K s) c r
  unfolding encode_as
  encode_wrote e v w = field_wrote K.tag (encode_fields K K.due s) e v w

-- the same of a site
pub record_wrote : {l b c : List ℕ} {at n q r : ℕ} (s : Site) → n ≡ length (encode_fields (site_kind [] s.kind) (due s.kind) s)
    → Wrote l at (kind_tag s.kind ∷ (n / 256) ∷ (n % 256) ∷ []) b q → Wrote b q (encode_fields (site_kind [] s.kind) (due s.kind) s) c r → Wrote l at (encode s) c r
record_wrote s e v w = encode_wrote (site_kind [] s.kind) s e v w

-- 15 heads, 24 bytes of values of one length, the name and the entries, then the fields after 0F
fields_length : (k : RecordKind) (s : Site) → length (encode_fields (site_kind [] k) (due k) s)
    ≡ 69 + length (take s.name.len s.name.bytes) + length (entries_bytes k (take s.stand.count s.stand.entries)) + added_length k
unfolding encode_fields value field_of
fields_length Tag52 s = simp length-append (omega arith)
fields_length Tag53 s = simp length-append (omega arith)
fields_length Tag54 s = simp length-append (omega arith)
fields_length Tag55 s = simp length-append (omega arith)

-- and all of the record, whether the site passes or not
pub record_length : (s : Site) → length (encode s)
    ≡ 3 + (69 + length (take s.name.len s.name.bytes) + entry_width s.kind * length (take s.stand.count s.stand.entries) + added_length s.kind)
record_length s = omega (arith, encode_length (site_kind [] s.kind) s, fields_length s.kind s, length_entries s.kind (take s.stand.count s.stand.entries))

-- the arrays of a site have the lengths of their types
pub sized : (s : Site) → length s.name.bytes ≡ 8 → length s.stand.entries ≡ 4 → Sized s
sized s n e = record { name = n; stand = e }

-- the bytes of the entries
few_bytes : (k : RecordKind) (n : ℕ) → n ≤ 4 → entry_width k * n ≤ 4 * entry_width k
few_bytes Tag52 n h = omega arith
few_bytes Tag53 n h = omega arith
few_bytes Tag54 n h = omega arith
few_bytes Tag55 n h = omega arith

pub record_few : (s : Site) → Sized s → length (encode s) ≤ most_site_record s.kind
record_few s z =
    let n : length (take s.name.len s.name.bytes) ≤ 8 = simp length-take (omega (arith, z.name)) in
    let e : length (take s.stand.count s.stand.entries) ≤ 4 = simp length-take (omega (arith, z.stand)) in
    let f : entry_width s.kind * length (take s.stand.count s.stand.entries) ≤ 4 * entry_width s.kind = few_bytes s.kind (length (take s.stand.count s.stand.entries)) e in
    omega (arith, record_length s, n, f)

-- of any kind
record_most : (k : RecordKind) → most_site_record k ≤ 109
record_most Tag52 = omega arith
record_most Tag53 = omega arith
record_most Tag54 = omega arith
record_most Tag55 = omega arith

pub record_short : (s : Site) → Sized s → length (encode s) ≤ 109
record_short s z = omega (arith, record_few s z, record_most s.kind)

pub fields_small : (s : Site) → Sized s → length (encode_fields (site_kind [] s.kind) (due s.kind) s) ≤ 255
fields_small s z = omega (arith, encode_length (site_kind [] s.kind) s, record_short s z)

-- head and fields where there is room, by the length of the record
pub record_put : {l b c : List ℕ} {at n q r : ℕ} (s : Site) → n ≡ length (encode s) → at + n ≤ length l
    → Wrote l at (kind_tag s.kind ∷ ((n - 3) / 256) ∷ ((n - 3) % 256) ∷ []) b q → Wrote b q (encode_fields (site_kind [] s.kind) (due s.kind) s) c r
    → WroteIf l at (encode s) c r
record_put s e fits v w = wrote_some (omega arith) (record_wrote s (omega (arith, encode_length (site_kind [] s.kind) s)) v w)
