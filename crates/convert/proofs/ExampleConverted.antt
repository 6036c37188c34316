-- A1 of document 01 in the three kinds, byte for byte, and rule 17 with its offsets.
use mathlib.Core.Path.{◌≡◌, refl}
use mathlib.Core.List.{List, [], ◌∷◌, ◌++◌}
use Prim.Native.Nat.{ℕ}
use lib.ListN.{take, drop}
use Rattle.std.specs.Prelude.{Ok, Err}
use Rattle.site.specs.Bounds.{no_entry}
use Rattle.site.specs.ExampleSite.{a1}
use Rattle.site.specs.Kinds.{counted_temperature, counted_dioxide}
use Rattle.loads.specs.Rounding.{up}
use Rattle.loads.specs.Texture.{texture_of}
use Rattle.loads.specs.Temperature.{temperature_factor}
use Rattle.loads.specs.Weathering.{class_of, weathering_of, weathering, available_weathering}
use Rattle.loads.specs.Uptake.{species_row, content, nitrogen_in, base_in, weight_of, stand_sum, nitrogen_uptake, base_demand, base_uptake_of, base_uptake}
use Rattle.loads.specs.Hydrogen.{hydrogen_of, al_of, bicarbonate_of, greatest_where, level_of, hydrogen, aluminium, bicarbonate, net, greatest_level, critical_leaching}
use Rattle.loads.specs.Supply.{base_supply, aluminium_limit}
use Rattle.loads.specs.Nitrogen.{denitrified, undenitrified, leaching}
use Rattle.loads.specs.SiteTerms.{terms_of}
use Rattle.loads.specs.MaxS.{load_rule, signed_max_s}
use Rattle.site.specs.Bytes.{tabulate, entry_at}
use Rattle.site.specs.Refusal.{and_then, unless}
use Rattle.site.specs.SpeciesList.{first_failing, place_of, lists}
use Rattle.site.specs.Values.{length_permitted, value_rule, stand_rule, composition_rule, entries_rule, known_rule, species_known, between, name_byte, entry_ranged, rising_from, shares_of}
use Rattle.site.specs.declared.RecordKind.TheVariants.{Tag53, Tag54}
use Rattle.convert.specs.declared.targets.Target.TheVariants.{Kind52, Kind53, Kind54}
use Rattle.site.specs.declared.Rule.TheVariants.{NotConvertible}
use Rattle.site.specs.declared.Site.{Site}
use Rattle.field.specs.Field.{store, value, entry_bytes, entries_bytes, blank_site, blank_of}
use Rattle.field.specs.Kind.{field_rule}
use Rattle.record.specs.FieldParts.{field_of}
use Rattle.record.specs.File.{first, onto, walk_file, contents_by, contents_to}
use Rattle.record.specs.Result.{result_numbers}
use Rattle.record.specs.Fields.{head_rule, walk_fields, encode_fields, encode_as}
use Rattle.record.specs.Records.{outer_rule, ending, record_in}
use Rattle.record.specs.Outer.{known_to, site_kinds, fields_at, with_load, site_to}
use Rattle.record.specs.Writer.{encode}
use Rattle.record.proofs.ExampleRecord.{bytes_a1}
use Rattle.convert.specs.Moved.{moved, species_convertible, temperature_convertible, field_start}
use Rattle.convert.specs.Converted.{if_convertible, all_moved, movable, converted}

-- into kind 53: four bytes more, which say 8 °C
a1_into_53 : encode (moved Kind53 a1) ≡ 83 ∷ 0 ∷ 79 ∷ drop 3 bytes_a1 ++ 16 ∷ 0 ∷ 1 ∷ 13 ∷ []
unfolding moved counted_temperature encode_as encode_fields field_of value entry_bytes entries_bytes
a1_into_53 = refl

-- into kind 54: the stand has five bytes, of which the first is the zero
a1_into_54 : encode (moved Kind54 a1) ≡ 84 ∷ 0 ∷ 80 ∷ take 27 (drop 3 bytes_a1) ++ 7 ∷ 0 ∷ 5 ∷ 0 ∷ drop 33 bytes_a1 ++ 16 ∷ 0 ∷ 1 ∷ 13 ∷ []
unfolding moved counted_temperature encode_as encode_fields field_of value entry_bytes entries_bytes
a1_into_54 = refl

-- at 9 °C, a record of 82 bytes whose field 10 starts at 78; and with species 300
abbrev warm : Site
warm = record a1 { kind = Tag53; temperature = 14 }

abbrev listed : Site
listed = record a1 { kind = Tag54; stand = record { entries = record { species = 300; share = 100; yield_kg = 2000 } ∷ no_entry ∷ no_entry ∷ no_entry ∷ []; count = 1 } }

abbrev warm_listed : Site
warm_listed = record listed { temperature = 14 }

-- what can be said of files by their sites: A1's record has 78 bytes
warm_into_52 : all_moved Kind52 0 (warm ∷ []) ≡ Err (record { rule = NotConvertible; at = 78 })
unfolding all_moved if_convertible unless species_convertible temperature_convertible field_start counted_temperature encode_fields field_of value entry_bytes entries_bytes
warm_into_52 = refl

second_record : all_moved Kind52 0 (a1 ∷ warm ∷ listed ∷ []) ≡ Err (record { rule = NotConvertible; at = 156 })
unfolding all_moved if_convertible unless species_convertible temperature_convertible field_start counted_temperature first encode_as encode_fields field_of value entry_bytes entries_bytes
second_record = refl

-- field 07 is ahead of field 10
stand_first : all_moved Kind52 0 (warm_listed ∷ []) ≡ Err (record { rule = NotConvertible; at = 30 })
unfolding all_moved if_convertible unless species_convertible temperature_convertible field_start counted_temperature encode_fields field_of value entry_bytes entries_bytes
stand_first = refl

-- 9 °C stays in kind 54, and species 300 at 9 °C in the kind it has
warm_into_54 : all_moved Kind54 0 (warm ∷ warm_listed ∷ []) ≡ Ok (record warm { kind = Tag54 } ∷ warm_listed ∷ [])
unfolding all_moved if_convertible unless species_convertible temperature_convertible field_start counted_temperature first moved encode_as encode_fields field_of value entry_bytes entries_bytes
warm_into_54 = refl

-- ---- from bytes, with the numbers of the refusals: 17 at field 10 of A1 at 9 °C, 82 bytes; and where a record of kind 55 comes after it, 3 there

abbrev bytes_warm : List ℕ
bytes_warm = 83 ∷ 0 ∷ 79 ∷ drop 3 bytes_a1 ++ 16 ∷ 0 ∷ 1 ∷ 14 ∷ []

numbered_17 : result_numbers (converted Kind52 (movable [] bytes_warm)) ≡ (17, 78)
unfolding result_numbers converted contents_to contents_by walk_file onto first with_load load_rule signed_max_s critical_leaching net hydrogen aluminium bicarbonate hydrogen_of al_of bicarbonate_of greatest_level level_of greatest_where up terms_of counted_dioxide temperature_factor texture_of class_of weathering_of weathering available_weathering species_row content nitrogen_in base_in weight_of stand_sum nitrogen_uptake base_demand base_uptake_of base_uptake base_supply aluminium_limit denitrified undenitrified leaching site_to fields_at record_in ending outer_rule head_rule unless walk_fields field_rule length_permitted tabulate entry_at store value_rule and_then stand_rule composition_rule entries_rule known_rule species_known lists place_of first_failing between name_byte entry_ranged rising_from shares_of blank_of blank_site known_to site_kinds all_moved if_convertible species_convertible temperature_convertible field_start counted_temperature moved encode_as encode_fields field_of value entry_bytes entries_bytes
numbered_17 = refl

own_fault_first : result_numbers (converted Kind52 (movable [] (bytes_warm ++ 85 ∷ 0 ∷ 0 ∷ []))) ≡ (3, 82)
unfolding result_numbers converted contents_to contents_by walk_file onto first with_load load_rule signed_max_s critical_leaching net hydrogen aluminium bicarbonate hydrogen_of al_of bicarbonate_of greatest_level level_of greatest_where up terms_of counted_dioxide temperature_factor texture_of class_of weathering_of weathering available_weathering species_row content nitrogen_in base_in weight_of stand_sum nitrogen_uptake base_demand base_uptake_of base_uptake base_supply aluminium_limit denitrified undenitrified leaching site_to fields_at record_in ending outer_rule head_rule unless walk_fields field_rule length_permitted tabulate entry_at store value_rule and_then stand_rule composition_rule entries_rule known_rule species_known lists place_of first_failing between name_byte entry_ranged rising_from shares_of blank_of blank_site known_to site_kinds all_moved if_convertible species_convertible temperature_convertible field_start counted_temperature moved encode_as encode_fields field_of value entry_bytes entries_bytes
own_fault_first = refl
