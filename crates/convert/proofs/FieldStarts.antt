-- Where the fields 07 and 10 of a record start, in numbers; and that there they are.
use mathlib.Core.Path.{◌≡◌, ap, ◌∙◌}
use mathlib.Core.Bool.{true, false, false≢true}
use mathlib.Core.List.{List, [], ◌∷◌, ◌++◌}
use Prim.Native.Nat.{ℕ, ◌+◌, ◌-◌}
use native.Mathlib.Omega.{arith}
use lib.ListN.{length, take, length-append, get_or}
use Rattle.std.proofs.lemmas.List.{get_or-append-add, append_assoc}
use Rattle.numbers.specs.TwoBytes.{word_bytes}
use Rattle.site.specs.Kinds.{due, has_temperature, has_dioxide, kind_tag}
use Rattle.site.specs.declared.RecordKind.{RecordKind}
use Rattle.site.specs.declared.RecordKind.TheVariants.{Tag52, Tag53, Tag54, Tag55}
use Rattle.site.specs.declared.Site.{Site}
use Rattle.field.specs.Field.{value, site_kind}
use Rattle.record.specs.FieldParts.{field_of}
use Rattle.record.specs.Fields.{encode_fields, encode_as}
use Rattle.record.specs.Writer.{encode}
use Rattle.record.proofs.EncodeLaws.{encode_length, fields_append}
use Rattle.convert.specs.Moved.{Older, field_start}

-- field 07 starts 28 bytes and the name behind the record's start
stand_behind : (k : RecordKind) (s : Site) → length (encode_fields (site_kind [] k) (take 6 (due k)) s) ≡ 25 + length (take s.name.len s.name.bytes)
unfolding encode_fields value field_of
stand_behind Tag52 s = simp length-append (omega arith)
stand_behind Tag53 s = simp length-append (omega arith)
stand_behind Tag54 s = simp length-append (omega arith)
stand_behind Tag55 s = simp length-append (omega arith)

pub stand_start : (s : Site) → field_start 7 s ≡ 28 + length (take s.name.len s.name.bytes)
unfolding field_start
stand_start s = omega (arith, stand_behind s.kind s)

-- field 10, where it is the last, 4 bytes before the record's end
temperature_behind : (k : RecordKind) (s : Site) → has_temperature k ≡ true → has_dioxide k ≡ false
    → length (encode_fields (site_kind [] k) (take 15 (due k)) s) + 4 ≡ length (encode_fields (site_kind [] k) (due k) s)
unfolding encode_fields value field_of
temperature_behind Tag52 s has last = absurd (false≢true has)
temperature_behind Tag53 s has last = simp length-append (omega arith)
temperature_behind Tag54 s has last = simp length-append (omega arith)
temperature_behind Tag55 s has last = cc

pub temperature_start : (s : Site) → has_temperature s.kind ≡ true → Older s → field_start 16 s + 4 ≡ length (encode s)
unfolding field_start
temperature_start s has last = omega (arith, temperature_behind s.kind s has last, encode_length (site_kind [] s.kind) s)

-- a field that is due starts there
pub starts : (s : Site) (t : ℕ) (later rest : List ℕ) → due s.kind ≡ take (t - 1) (due s.kind) ++ t ∷ later → get_or (encode s ++ rest) (field_start t s) 0 ≡ t
unfolding field_start encode_fields encode_as field_of
starts s t later rest order =
    let K = site_kind [] s.kind in
    let front = encode_fields K (take (t - 1) (due s.kind)) s in
    let behind = encode_fields K (t ∷ later) s in
    let split : encode_fields K (due s.kind) s ≡ front ++ behind = ap (λ ts. encode_fields K ts s) order ∙ fields_append K s (take (t - 1) (due s.kind)) (t ∷ later) in
    let head = kind_tag s.kind ∷ word_bytes (length (front ++ behind)) in
    let past : get_or (head ++ ((front ++ behind) ++ rest)) (3 + length front) 0 ≡ get_or ((front ++ behind) ++ rest) (length front) 0 =
    get_or-append-add head ((front ++ behind) ++ rest) (length front) 0 in
    let none : length front ≡ length front + 0 = omega arith in
    let there : get_or ((front ++ behind) ++ rest) (length front) 0 ≡ t =
    ap (λ (bs : List ℕ). get_or bs (length front) 0) (append_assoc front behind rest) ∙ ap (λ (n : ℕ). get_or (front ++ (behind ++ rest)) n 0) none ∙ get_or-append-add front (behind ++ rest) 0 0 in
    rw split (past ∙ there)
