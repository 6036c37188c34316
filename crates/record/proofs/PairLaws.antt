-- The deposition of a record of bytes: S and N have two bytes each.
use Prim.Native.Nat.{ℕ, zero, suc, ◌≤◌, ◌<◌}
use mathlib.Core.List.{List, [], ◌∷◌, ◌++◌}
use native.Mathlib.Omega.{arith}
use lib.ListN.{length, get_or}
use Rattle.site.specs.Ranges.{deposition_range}
use Rattle.site.specs.declared.Site.{Site}
use Rattle.site.specs.declared.RecordKind.{RecordKind}
use Rattle.site.specs.declared.RecordKind.TheVariants.{Tag52, Tag53, Tag54, Tag55}
use Rattle.site.specs.Kinds.{due}
use Rattle.site.proofs.Tags.{first_fifteen}
use mathlib.Core.Path.{◌≡◌, refl}
use Rattle.field.specs.Kind.{Kind}
use Rattle.field.specs.Field.{site_kind, value}
use Rattle.numbers.specs.TwoBytes.{AllBytes}
use Rattle.record.specs.FieldParts.{field_of}
use Rattle.record.specs.Fields.{encode_fields, encode_as}
use Rattle.record.specs.Writer.{encode}
use Rattle.record.proofs.FieldBytes.{field_value, field_rest, value_bytes, rest_bytes}

-- the value of each field of a record of bytes is bytes
field_bytes : {A : Type 0} (K : Kind A) (x : A) (ts : List ℕ) (k : ℕ) → k < length ts → AllBytes (encode_fields K ts x) → AllBytes (K.bytes (get_or ts k 0) x)
unfolding encode_fields
field_bytes K x [] k h b = absurd (omega arith)
field_bytes K x (t ∷ ts) zero h b = rw (field_value t (K.bytes t x) (encode_fields K ts x)) at (value_bytes (field_of t (K.bytes t x) ++ encode_fields K ts x) b)
field_bytes K x (t ∷ ts) (suc k) h b = field_bytes K x ts k (omega arith) (rw (field_rest t (K.bytes t x) (encode_fields K ts x)) at (rest_bytes (field_of t (K.bytes t x) ++ encode_fields K ts x) b))

pub record PairRange (s : Site) : Type 0 where
  pub sulphur : s.sulphur ≤ deposition_range.most
  pub nitrogen : s.nitrogen ≤ deposition_range.most

-- field 0F stands at one place in every kind
pair_place : (k : RecordKind) → get_or (due k) 14 0 ≡ 15
pair_place Tag52 = refl
pair_place Tag53 = refl
pair_place Tag54 = refl
pair_place Tag55 = refl

pub pair_range : (s : Site) → AllBytes (encode s) → PairRange s
unfolding encode_as field_of value
pair_range s b =
    let place : 14 < length (due s.kind) = omega (arith, first_fifteen s.kind) in
    let pair = rw (pair_place s.kind) at (field_bytes (site_kind [] s.kind) s (due s.kind) 14 place (λ i. b (suc (suc (suc i))))) in
    record { sulphur = omega (arith, pair 0); nitrogen = omega (arith, pair 2) }
