-- Record A1 of document 01: 78 bytes, read and written again by the definitions; the same site at 20 °C, the greatest temperature, a record of kind 53; with a
-- stand of which one species stands in a list, a record of kind 54; and as a reserve, in each kind.
use mathlib.Core.Path.{◌≡◌, refl}
use mathlib.Core.List.{List, [], ◌∷◌, ◌++◌}
use Prim.Native.Nat.{ℕ}
use native.Mathlib.Omega.{arith}
use lib.ListN.{length, take, drop}
use Rattle.site.specs.declared.RecordKind.TheVariants.{Tag52, Tag53, Tag54, Tag55}
use Rattle.site.specs.declared.RecordKind.{RecordKind}
use Rattle.site.specs.declared.Site.{Site}
use Rattle.std.specs.Prelude.{Ok}
use Rattle.site.specs.ExampleSite.{a1, a1_reserve}
use Rattle.site.specs.Bytes.{tabulate, entry_at}
use Rattle.field.specs.Field.{store, entry_bytes, entries_bytes, blank_site, blank_of, value}
use Rattle.field.specs.Kind.{field_rule}
use Rattle.site.specs.Values.{length_permitted, value_rule, stand_rule, composition_rule, entries_rule, known_rule, species_known, between, name_byte, entry_ranged, rising_from, shares_of}
use Rattle.record.specs.FieldParts.{field_of}
use Rattle.site.specs.Refusal.{and_then, unless}
use Rattle.site.specs.SpeciesList.{first_failing, good_entry, least_at, first_bad, list_rule, place_of, lists}
use Rattle.site.specs.Bounds.{no_entry}
use Rattle.record.specs.Fields.{head_rule, walk_fields, encode_fields, encode_as}
use Rattle.record.specs.Records.{outer_rule, ending, record_in, only_one, single}
use Rattle.record.specs.Outer.{known_to, site_kinds, fields_at, read_record}
use Rattle.site.specs.Kinds.{counted_dioxide}
use Rattle.record.proofs.RoundTrip.{unlost_read}
use Rattle.record.specs.Writer.{encode}

abbrev pub bytes_a1 : List ℕ
bytes_a1 =
    82 ∷ 0 ∷ 75
    ∷ 1 ∷ 0 ∷ 2 ∷ 65 ∷ 49
    ∷ 2 ∷ 0 ∷ 1 ∷ 1
    ∷ 3 ∷ 0 ∷ 2 ∷ 10 ∷ 65
    ∷ 4 ∷ 0 ∷ 1 ∷ 50
    ∷ 5 ∷ 0 ∷ 1 ∷ 1
    ∷ 6 ∷ 0 ∷ 2 ∷ 0 ∷ 200
    ∷ 7 ∷ 0 ∷ 4 ∷ 0 ∷ 100 ∷ 7 ∷ 208
    ∷ 8 ∷ 0 ∷ 2 ∷ 0 ∷ 50
    ∷ 9 ∷ 0 ∷ 1 ∷ 80
    ∷ 10 ∷ 0 ∷ 2 ∷ 1 ∷ 44
    ∷ 11 ∷ 0 ∷ 2 ∷ 3 ∷ 232
    ∷ 12 ∷ 0 ∷ 2 ∷ 11 ∷ 184
    ∷ 13 ∷ 0 ∷ 2 ∷ 3 ∷ 232
    ∷ 14 ∷ 0 ∷ 2 ∷ 0 ∷ 20
    ∷ 15 ∷ 0 ∷ 4 ∷ 1 ∷ 244 ∷ 2 ∷ 188
    ∷ []

-- whatever the list
a1_fields : (list : List ℕ) → single (fields_at Tag55 list bytes_a1) (length bytes_a1) ≡ Ok a1
unfolding single only_one fields_at record_in ending outer_rule head_rule unless walk_fields field_rule length_permitted tabulate entry_at store value_rule and_then stand_rule composition_rule entries_rule known_rule species_known lists place_of first_failing between name_byte entry_ranged rising_from shares_of blank_of blank_site known_to site_kinds
a1_fields list = refl

pub a1_read : (list : List ℕ) → read_record list bytes_a1 ≡ Ok a1
unfolding counted_dioxide
a1_read list = unlost_read list bytes_a1 a1 (omega arith) (a1_fields list) refl

pub a1_written : encode a1 ≡ bytes_a1
unfolding encode_as encode_fields field_of value entry_bytes entries_bytes
a1_written = refl

-- A1 at 20 °C: the outer tag 53, 79 bytes of fields, and the field 10 after 0F
abbrev pub bytes_a1_20 : List ℕ
bytes_a1_20 = 83 ∷ 0 ∷ 79 ∷ drop 3 bytes_a1 ++ 16 ∷ 0 ∷ 1 ∷ 25 ∷ []

abbrev a1_20 : Site
a1_20 = record a1 { kind = Tag53; temperature = 25 }

a1_20_fields : (list : List ℕ) → single (fields_at Tag55 list bytes_a1_20) (length bytes_a1_20) ≡ Ok a1_20
unfolding single only_one fields_at record_in ending outer_rule head_rule unless walk_fields field_rule length_permitted tabulate entry_at store value_rule and_then stand_rule composition_rule entries_rule known_rule species_known lists place_of first_failing between name_byte entry_ranged rising_from shares_of blank_of blank_site known_to site_kinds
a1_20_fields list = refl

a1_20_read : (list : List ℕ) → read_record list bytes_a1_20 ≡ Ok a1_20
unfolding counted_dioxide
a1_20_read list = unlost_read list bytes_a1_20 a1_20 (omega arith) (a1_20_fields list) refl

a1_20_written : encode a1_20 ≡ bytes_a1_20
unfolding encode_as encode_fields field_of value entry_bytes entries_bytes
a1_20_written = refl

-- a list of one species, 258: its contents are those of pine
abbrev pub one_species : List ℕ
one_species = 1 ∷ 2 ∷ 21 ∷ 13 ∷ 7 ∷ 188 ∷ 6 ∷ 124 ∷ 30 ∷ 102 ∷ []

one_species_good : list_rule one_species ≡ Ok tt
unfolding list_rule first_bad first_failing good_entry least_at
one_species_good = refl

-- spruce and the listed species: the outer tag 54, 85 bytes of fields, and in field 07 two entries of five bytes
abbrev pub bytes_a1_54 : List ℕ
bytes_a1_54 =
    84 ∷ 0 ∷ 85
    ∷ take 27 (drop 3 bytes_a1)
    ++ 7 ∷ 0 ∷ 10 ∷ 0 ∷ 1 ∷ 60 ∷ 7 ∷ 208 ∷ 1 ∷ 2 ∷ 40 ∷ 19 ∷ 136
    ∷ drop 37 bytes_a1
    ++ 16 ∷ 0 ∷ 1 ∷ 25 ∷ []

abbrev pub a1_54 : Site
a1_54 = record a1_20 {
  kind = Tag54;
  stand = record {
    entries = record { species = 1; share = 60; yield_kg = 2000 } ∷ record { species = 258; share = 40; yield_kg = 5000 } ∷ no_entry ∷ no_entry ∷ [];
    count = 2;
  };
}

a1_54_fields : single (fields_at Tag55 one_species bytes_a1_54) (length bytes_a1_54) ≡ Ok a1_54
unfolding single only_one fields_at record_in ending outer_rule head_rule unless walk_fields field_rule length_permitted tabulate entry_at store value_rule and_then stand_rule composition_rule entries_rule known_rule species_known lists place_of first_failing between name_byte entry_ranged rising_from shares_of blank_of blank_site known_to site_kinds
a1_54_fields = refl

a1_54_read : read_record one_species bytes_a1_54 ≡ Ok a1_54
unfolding counted_dioxide
a1_54_read = unlost_read one_species bytes_a1_54 a1_54 (omega arith) a1_54_fields refl

a1_54_written : encode a1_54 ≡ bytes_a1_54
unfolding encode_as encode_fields field_of value entry_bytes entries_bytes
a1_54_written = refl

-- A1 as a reserve: field 07 has no bytes, so the record is four bytes shorter, or with field 10 as long
abbrev reserve_fields : List ℕ
reserve_fields = take 27 (drop 3 bytes_a1) ++ 7 ∷ 0 ∷ 0 ∷ drop 37 bytes_a1

abbrev bytes_reserve : RecordKind → List ℕ
bytes_reserve Tag52 = 82 ∷ 0 ∷ 71 ∷ reserve_fields
bytes_reserve Tag53 = 83 ∷ 0 ∷ 75 ∷ reserve_fields ++ 16 ∷ 0 ∷ 1 ∷ 13 ∷ []
bytes_reserve Tag54 = 84 ∷ 0 ∷ 75 ∷ reserve_fields ++ 16 ∷ 0 ∷ 1 ∷ 13 ∷ []
bytes_reserve Tag55 = 85 ∷ 0 ∷ 80 ∷ reserve_fields ++ 16 ∷ 0 ∷ 1 ∷ 13 ∷ 17 ∷ 0 ∷ 2 ∷ 0 ∷ 0 ∷ []

reserve_here : (list : List ℕ) (k : RecordKind) → single (fields_at Tag55 list (bytes_reserve k)) (length (bytes_reserve k)) ≡ Ok (record a1_reserve { kind = k })
unfolding single only_one fields_at record_in ending outer_rule head_rule unless walk_fields field_rule length_permitted tabulate entry_at store value_rule and_then stand_rule composition_rule entries_rule known_rule species_known lists place_of first_failing between name_byte entry_ranged rising_from shares_of blank_of blank_site known_to site_kinds
reserve_here list Tag52 = refl
reserve_here list Tag53 = refl
reserve_here list Tag54 = refl
reserve_here list Tag55 = refl

reserve_read : (list : List ℕ) (k : RecordKind) → read_record list (bytes_reserve k) ≡ Ok (record a1_reserve { kind = k })
unfolding counted_dioxide
reserve_read list Tag52 = unlost_read list (bytes_reserve Tag52) _ (omega arith) (reserve_here list Tag52) refl
reserve_read list Tag53 = unlost_read list (bytes_reserve Tag53) _ (omega arith) (reserve_here list Tag53) refl
reserve_read list Tag54 = unlost_read list (bytes_reserve Tag54) _ (omega arith) (reserve_here list Tag54) refl
reserve_read list Tag55 = unlost_read list (bytes_reserve Tag55) _ (omega arith) (reserve_here list Tag55) refl

reserve_written : (k : RecordKind) → encode (record a1_reserve { kind = k }) ≡ bytes_reserve k
unfolding encode_as encode_fields field_of value entry_bytes entries_bytes
reserve_written Tag52 = refl
reserve_written Tag53 = refl
reserve_written Tag54 = refl
reserve_written Tag55 = refl

-- A1 with ceiling 50 and P 5000, of kind 55: field 11 starts at 83
abbrev pub bytes_lost : List ℕ
bytes_lost =
    85 ∷ 0 ∷ 85
    ∷ take 27 (drop 3 bytes_a1)
    ++ 7 ∷ 0 ∷ 5 ∷ 0 ∷ 0 ∷ 100 ∷ 7 ∷ 208
    ∷ take 24 (drop 37 bytes_a1)
    ++ 13 ∷ 0 ∷ 2 ∷ 0 ∷ 50
    ∷ drop 66 bytes_a1
    ++ 16 ∷ 0 ∷ 1 ∷ 13 ∷ 17 ∷ 0 ∷ 2 ∷ 19 ∷ 136 ∷ []
