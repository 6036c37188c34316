-- For each refusal that a record can get, in every kind, bytes that get it, with its number and offset, and bytes with two faults: the definitions say the same.
use mathlib.Core.Path.{◌≡◌, refl}
use mathlib.Core.List.{List, [], ◌∷◌, ◌++◌, map}
use Prim.Native.Nat.{ℕ}
use lib.ListN.{take, drop, replicate}
use Rattle.site.specs.ExampleSite.{a1}
use Rattle.site.specs.Refusal.{and_then, unless}
use Rattle.site.specs.SpeciesList.{first_failing, place_of, lists}
use Rattle.site.specs.Check.{fields_rule, due_rule}
use Rattle.loads.specs.Check.{site_rule}
use Rattle.site.specs.Bytes.{tabulate, entry_at}
use Rattle.site.specs.Values.{length_permitted, item_count, count_rule, value_rule, stand_rule, composition_rule, entries_rule, known_rule, species_known, between, name_byte, entry_ranged, rising_from, shares_of}
use Rattle.field.specs.Field.{store, entry_bytes, entries_bytes, blank_site, blank_of, value}
use Rattle.field.specs.Kind.{field_rule}
use Rattle.output.specs.Output.{room_rule, output_rule, output_numbers}
use Rattle.record.specs.FieldParts.{field_of}
use Rattle.record.specs.Result.{result_numbers}
use Rattle.record.specs.Fields.{head_rule, walk_fields, encode_fields, encode_as}
use Rattle.record.specs.Records.{outer_rule, ending, record_in, only_one, single}
use Rattle.record.specs.Outer.{known_to, site_kinds, fields_at, with_load, site_to, read_record}
use Rattle.record.specs.Writer.{write_rule}
use Rattle.site.specs.Kinds.{counted_temperature, counted_dioxide}
use Rattle.loads.specs.Rounding.{up}
use Rattle.loads.specs.Texture.{texture_of}
use Rattle.loads.specs.Temperature.{temperature_factor}
use Rattle.loads.specs.Weathering.{class_of, weathering_of, weathering, available_weathering}
use Rattle.loads.specs.Uptake.{species_row, content, nitrogen_in, base_in, weight_of, stand_sum, nitrogen_uptake, base_demand, base_uptake_of, base_uptake}
use Rattle.loads.specs.Hydrogen.{hydrogen_of, al_of, bicarbonate_of, greatest_where, level_of, hydrogen, aluminium, bicarbonate, net, greatest_level, critical_leaching}
use Rattle.loads.specs.Supply.{base_supply, aluminium_limit}
use Rattle.loads.specs.Nitrogen.{denitrified, undenitrified, leaching}
use Rattle.loads.specs.SiteTerms.{terms_of}
use Rattle.loads.specs.MaxS.{load_rule, signed_max_s}
use Rattle.loads.proofs.WithoutBicarbonateLaws.{unlost_check}
use Rattle.record.proofs.ExampleRecord.{bytes_lost, bytes_a1, bytes_a1_20, one_species, bytes_a1_54, a1_54}

-- the fields 01 to 06 of A1
abbrev to_stand : List ℕ
to_stand = take 27 (drop 3 bytes_a1)

-- a record of kind 54 that ends with a stand of one species
abbrev of_species : (hi lo share : ℕ) → List ℕ
of_species hi lo share = 84 ∷ 0 ∷ 35 ∷ to_stand ++ 7 ∷ 0 ∷ 5 ∷ hi ∷ lo ∷ share ∷ 7 ∷ 208 ∷ []

pub record Refusal : Type 0 where
  pub bytes : List ℕ
  pub given : ℕ × ℕ

abbrev refusals : List Refusal
refusals =
    record { bytes = []; given = (1, 0) }
    ∷ record { bytes = 82 ∷ 0 ∷ []; given = (2, 0) }
    ∷ record { bytes = 82 ∷ 1 ∷ 0 ∷ []; given = (2, 0) }  -- a length of 256
    ∷ record { bytes = 82 ∷ 0 ∷ 1 ∷ []; given = (2, 0) }  -- beyond the end
    ∷ record { bytes = 86 ∷ 0 ∷ 0 ∷ []; given = (3, 0) }
    ∷ record { bytes = bytes_a1 ++ 82 ∷ []; given = (4, 78) }
    ∷ record { bytes = 82 ∷ 0 ∷ 1 ∷ 1 ∷ []; given = (5, 3) }
    ∷ record { bytes = 82 ∷ 0 ∷ 4 ∷ 1 ∷ 0 ∷ 2 ∷ 65 ∷ []; given = (5, 3) }  -- beyond its record
    ∷ record { bytes = 82 ∷ 0 ∷ 0 ∷ []; given = (6, 3) }  -- none left where 01 is due
    ∷ record { bytes = 82 ∷ 0 ∷ 4 ∷ 2 ∷ 0 ∷ 1 ∷ 1 ∷ []; given = (6, 3) }
    ∷ record { bytes = 82 ∷ 0 ∷ 76 ∷ drop 3 bytes_a1 ++ 16 ∷ []; given = (6, 78) }  -- a byte after 0F
    ∷ record { bytes = 82 ∷ 0 ∷ 3 ∷ 1 ∷ 0 ∷ 0 ∷ []; given = (7, 3) }
    ∷ record { bytes = 82 ∷ 0 ∷ 4 ∷ 1 ∷ 0 ∷ 1 ∷ 97 ∷ []; given = (8, 3) }  -- a
    ∷ record { bytes = 82 ∷ 0 ∷ 38 ∷ to_stand ++ 7 ∷ 0 ∷ 8 ∷ 1 ∷ 50 ∷ 7 ∷ 208 ∷ 1 ∷ 50 ∷ 7 ∷ 208 ∷ []; given = (9, 30) }
    ∷ record { bytes = 82 ∷ 0 ∷ 34 ∷ to_stand ++ 7 ∷ 0 ∷ 4 ∷ 0 ∷ 99 ∷ 7 ∷ 208 ∷ []; given = (10, 30) }
    -- kind 53: field 10 is due after 0F, at 78, and is the last
    ∷ record { bytes = 83 ∷ 0 ∷ 75 ∷ drop 3 bytes_a1; given = (6, 78) }  -- none left where 10 is due
    ∷ record { bytes = 83 ∷ 0 ∷ 80 ∷ drop 3 bytes_a1_20 ++ 16 ∷ []; given = (6, 82) }  -- a byte after 10
    ∷ record { bytes = 82 ∷ 0 ∷ 79 ∷ drop 3 bytes_a1_20; given = (6, 78) }  -- field 10 in kind 52
    ∷ record { bytes = 83 ∷ 0 ∷ 79 ∷ drop 3 bytes_a1 ++ 16 ∷ 0 ∷ 1 ∷ 26 ∷ []; given = (8, 78) }  -- a temperature above 25
    ∷ record { bytes = 83 ∷ 0 ∷ 80 ∷ drop 3 bytes_a1 ++ 16 ∷ 0 ∷ 2 ∷ 0 ∷ 13 ∷ []; given = (7, 78) }
    ∷ record { bytes = bytes_a1_20 ++ 82 ∷ []; given = (4, 82) }
    -- kind 54: entries of five bytes, and a species number that is none of 0 to 8 stands in the list
    ∷ record { bytes = 82 ∷ 0 ∷ 34 ∷ to_stand ++ 7 ∷ 0 ∷ 4 ∷ 9 ∷ 100 ∷ 7 ∷ 208 ∷ []; given = (8, 30) }  -- species 9 in kind 52
    ∷ record { bytes = 84 ∷ 0 ∷ 34 ∷ to_stand ++ 7 ∷ 0 ∷ 4 ∷ 0 ∷ 100 ∷ 7 ∷ 208 ∷ []; given = (7, 30) }
    ∷ record { bytes = of_species 0 9 100; given = (8, 30) }
    ∷ record { bytes = of_species 0 255 100; given = (8, 30) }
    ∷ record { bytes = of_species 4 0 100; given = (8, 30) }  -- 1024
    ∷ record { bytes = of_species 1 0 100; given = (16, 30) }  -- 256
    ∷ record { bytes = of_species 3 255 100; given = (16, 30) }  -- 1023
    ∷ record { bytes = of_species 1 2 100; given = (6, 38) }  -- 258 is listed, and none is left where 08 is due
    ∷ record { bytes = 84 ∷ 0 ∷ 81 ∷ take 85 (drop 3 bytes_a1_54); given = (6, 84) }  -- none left where 10 is due
    -- a stand of no entries, then none left where 08 is due; of entries that are not whole, and of five
    ∷ record { bytes = 82 ∷ 0 ∷ 30 ∷ to_stand ++ 7 ∷ 0 ∷ 0 ∷ []; given = (6, 33) }
    ∷ record { bytes = 84 ∷ 0 ∷ 30 ∷ to_stand ++ 7 ∷ 0 ∷ 0 ∷ []; given = (6, 33) }
    ∷ record { bytes = 82 ∷ 0 ∷ 32 ∷ to_stand ++ 7 ∷ 0 ∷ 2 ∷ 0 ∷ 0 ∷ []; given = (7, 30) }
    ∷ record { bytes = 82 ∷ 0 ∷ 50 ∷ to_stand ++ 7 ∷ 0 ∷ 20 ∷ replicate 20 0; given = (7, 30) }
    ∷ record { bytes = 84 ∷ 0 ∷ 55 ∷ to_stand ++ 7 ∷ 0 ∷ 25 ∷ replicate 25 0; given = (7, 30) }
    -- kind 55: field 11 is due after 10, and is the last; CLmaxS would be below zero, also where a byte follows the record
    ∷ record { bytes = bytes_lost; given = (21, 83) }
    ∷ record { bytes = bytes_lost ++ 85 ∷ []; given = (21, 83) }
    ∷ record { bytes = 85 ∷ 0 ∷ 86 ∷ drop 3 bytes_lost ++ 0 ∷ []; given = (6, 88) }  -- a byte after 11
    ∷ record { bytes = 84 ∷ 0 ∷ 85 ∷ drop 3 bytes_lost; given = (6, 83) }  -- field 11 in kind 54
    ∷ record { bytes = 85 ∷ 0 ∷ 80 ∷ take 80 (drop 3 bytes_lost); given = (6, 83) }  -- none left where 11 is due
    ∷ record { bytes = 85 ∷ 0 ∷ 85 ∷ take 83 (drop 3 bytes_lost) ++ 19 ∷ 137 ∷ []; given = (8, 83) }  -- a carbon dioxide of 5001
    -- two faults at one place: the first in 01's order
    ∷ record { bytes = 86 ∷ 0 ∷ []; given = (2, 0) }  -- under 3 bytes, then the tag
    ∷ record { bytes = 86 ∷ 255 ∷ 255 ∷ []; given = (3, 0) }  -- the tag, then the length
    ∷ record { bytes = 82 ∷ 0 ∷ 1 ∷ 2 ∷ []; given = (5, 3) }  -- under 3 bytes, then the tag
    ∷ record { bytes = 82 ∷ 0 ∷ 4 ∷ 2 ∷ 0 ∷ 5 ∷ 65 ∷ []; given = (6, 3) }  -- the tag, then the length
    ∷ record { bytes = 82 ∷ 0 ∷ 4 ∷ 1 ∷ 0 ∷ 9 ∷ 97 ∷ []; given = (5, 3) }  -- the length beyond its record, then the length that is not permitted
    ∷ record { bytes = 82 ∷ 0 ∷ 12 ∷ 1 ∷ 0 ∷ 9 ∷ 97 ∷ 97 ∷ 97 ∷ 97 ∷ 97 ∷ 97 ∷ 97 ∷ 97 ∷ 97 ∷ []; given = (7, 3) }  -- the length, then the range
    ∷ record { bytes = 82 ∷ 0 ∷ 38 ∷ to_stand ++ 7 ∷ 0 ∷ 8 ∷ 9 ∷ 50 ∷ 7 ∷ 208 ∷ 1 ∷ 50 ∷ 7 ∷ 208 ∷ []; given = (8, 30) }  -- the range, then the order
    ∷ record { bytes = 82 ∷ 0 ∷ 38 ∷ to_stand ++ 7 ∷ 0 ∷ 8 ∷ 1 ∷ 50 ∷ 7 ∷ 208 ∷ 1 ∷ 49 ∷ 7 ∷ 208 ∷ []; given = (9, 30) }  -- the order, then the shares
    ∷ record { bytes = of_species 1 0 99; given = (10, 30) }  -- the shares, then the list
    ∷ []

refusals_agree : map (λ (r : Refusal). result_numbers (read_record one_species r.bytes)) refusals ≡ map (λ (r : Refusal). r.given) refusals
unfolding with_load fields_at load_rule signed_max_s critical_leaching net hydrogen aluminium bicarbonate hydrogen_of al_of bicarbonate_of greatest_level level_of greatest_where up terms_of counted_temperature counted_dioxide temperature_factor texture_of class_of weathering_of weathering available_weathering species_row content nitrogen_in base_in weight_of stand_sum nitrogen_uptake base_demand base_uptake_of base_uptake base_supply aluminium_limit denitrified undenitrified leaching result_numbers read_record single only_one site_to record_in ending outer_rule head_rule unless walk_fields field_rule length_permitted tabulate entry_at store value_rule and_then stand_rule composition_rule entries_rule known_rule species_known lists place_of first_failing between name_byte entry_ranged rising_from shares_of blank_of blank_site known_to site_kinds
refusals_agree = refl

-- A1 has 78 bytes, and 77 are lent
short_buffer : (list : List ℕ) → output_numbers (write_rule list a1 77) 78 ≡ (11, 0)
unfolding output_numbers output_rule room_rule and_then due_rule fields_rule counted_dioxide count_rule item_count value_rule stand_rule composition_rule entries_rule known_rule species_known between name_byte entry_ranged rising_from shares_of encode_as encode_fields field_of value entry_bytes entries_bytes
short_buffer list = rw (unlost_check list a1 refl) refl

-- a site value whose species the list lacks, ahead of a short buffer
not_listed_first : output_numbers (write_rule [] a1_54 0) 88 ≡ (16, 0)
unfolding output_numbers output_rule room_rule and_then site_rule due_rule fields_rule load_rule signed_max_s critical_leaching net hydrogen aluminium bicarbonate hydrogen_of al_of bicarbonate_of greatest_level level_of greatest_where up terms_of counted_temperature counted_dioxide temperature_factor texture_of class_of weathering_of weathering available_weathering species_row content nitrogen_in base_in weight_of stand_sum nitrogen_uptake base_demand base_uptake_of base_uptake base_supply aluminium_limit denitrified undenitrified leaching count_rule item_count value_rule stand_rule composition_rule entries_rule known_rule species_known lists place_of first_failing between name_byte entry_ranged rising_from shares_of encode_as encode_fields field_of value entry_bytes entries_bytes
not_listed_first = refl
