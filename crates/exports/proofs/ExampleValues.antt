-- A1 as a reserve, as a site value of each length: the loads, region, exceedances and mark, whatever stands past its name and past the count of its entries.
-- A name of no bytes and five entries are 7; a reserve whose water loses more than the site supplies is 21.
use Rattle.std.specs.Prelude.{ℕ, ◌/◌, ◌%◌, map, List, ◌≡◌, refl, Ok, Err, Result, [], ◌∷◌, ◌++◌}
use Rattle.site.specs.Refusal.{and_then, unless}
use Rattle.site.specs.Check.{fields_rule, due_rule}
use Rattle.loads.specs.Check.{site_rule}
use Rattle.site.specs.Kinds.{counted_temperature, counted_dioxide}
use Rattle.site.specs.Bytes.{tabulate}
use Rattle.site.specs.SpeciesList.{least_at, good_entry, first_failing, first_bad, list_rule, list_fault}
use Rattle.site.specs.Values.{count_rule, item_count, value_rule, name_byte, between, composition_rule, entries_rule, known_rule, stand_rule}
use Rattle.site.specs.declared.Refusal.{Refusal}
use Rattle.site.specs.declared.Rule.TheVariants.{BadLength, LoadBelowZero}
use Rattle.loads.specs.Rounding.{up}
use Rattle.loads.specs.Texture.{texture_of}
use Rattle.loads.specs.Temperature.{temperature_factor}
use Rattle.loads.specs.Weathering.{class_of, weathering_of, weathering, available_weathering}
use Rattle.loads.specs.Uptake.{stand_sum, nitrogen_uptake, base_demand, base_uptake_of, base_uptake}
use Rattle.loads.specs.Hydrogen.{hydrogen_of, al_of, bicarbonate_of, bicarbonate, net, greatest_where, level_of, hydrogen, aluminium, greatest_level, critical_leaching}
use Rattle.loads.specs.Supply.{base_supply, aluminium_limit}
use Rattle.loads.specs.Nitrogen.{denitrified, undenitrified, leaching}
use Rattle.loads.specs.SiteTerms.{terms_of}
use Rattle.loads.specs.MaxS.{load_rule, signed_max_s, cl_max_s}
use Rattle.loads.specs.CriticalLoads.{cl_min_n, cl_max_n, cl_nut_n, loads_of, load_numbers}
use Rattle.judgement.specs.Regions.{excess, region_of, acid_in, acid_of}
use Rattle.judgement.specs.Verdicts.{region, acid_exceedance, nutrient_exceedance, verdict_of, verdict, verdict_numbers}
use Rattle.exports.specs.Lent.{lent}
use Rattle.exports.specs.Layout.{kind_in, site_as, entry_in, site_in, value_length, value_check, given, site_load_numbers, mark_number, verdict_marked, judgement_numbers}

-- the name's length and the count of the entries; past them 255
abbrev value : (length count : ℕ) → List ℕ
value length count =
    65 ∷ 49 ∷ 255 ∷ 255 ∷ 255 ∷ 255 ∷ 255 ∷ 255 ∷ length
    ∷ 1 ∷ 10 ∷ 65 ∷ 50 ∷ 1 ∷ 0 ∷ 200
    ∷ 255 ∷ 255 ∷ 255 ∷ 255 ∷ 255 ∷ 255 ∷ 255 ∷ 255 ∷ 255 ∷ 255 ∷ 255 ∷ 255 ∷ 255 ∷ 255 ∷ 255 ∷ 255
    ∷ count
    ∷ 0 ∷ 50 ∷ 80 ∷ 1 ∷ 44 ∷ 3 ∷ 232 ∷ 11 ∷ 184 ∷ 3 ∷ 232 ∷ 0 ∷ 20 ∷ 1 ∷ 244 ∷ 2 ∷ 188 ∷ []

abbrev answer : List ℕ → Result (List ℕ) Refusal
answer b = given [] b (judgement_numbers [] (site_in b))

abbrev numbers : List ℕ
numbers = 1225 ∷ 50 ∷ 1411 ∷ 94 ∷ 0 ∷ 0 ∷ 606 ∷ 1 ∷ []

-- of 50, 51 and 55 bytes, and of 57 without carbon dioxide
reserves_judged :
    answer (value 2 0) ∷ answer (value 2 0 ++ 13 ∷ []) ∷ answer (value 2 0 ++ 13 ∷ 255 ∷ 255 ∷ 255 ∷ 255 ∷ [])
    ∷ answer (value 2 0 ++ 13 ∷ 255 ∷ 255 ∷ 255 ∷ 255 ∷ 0 ∷ 0 ∷ []) ∷ []
    ≡ Ok numbers ∷ Ok numbers ∷ Ok numbers ∷ Ok numbers ∷ []
unfolding given lent unless list_rule list_fault first_bad first_failing good_entry least_at value_check value_length and_then site_rule due_rule load_rule signed_max_s net bicarbonate bicarbonate_of counted_dioxide fields_rule count_rule item_count value_rule name_byte between composition_rule entries_rule known_rule stand_rule kind_in site_as entry_in tabulate judgement_numbers site_load_numbers load_numbers loads_of verdict_marked mark_number terms_of up counted_temperature temperature_factor texture_of class_of weathering_of weathering available_weathering stand_sum nitrogen_uptake base_demand base_uptake_of base_uptake base_supply aluminium_limit hydrogen_of al_of greatest_where level_of hydrogen aluminium greatest_level critical_leaching denitrified undenitrified leaching cl_max_s cl_min_n cl_max_n cl_nut_n excess region_of acid_in acid_of region acid_exceedance nutrient_exceedance verdict_of verdict verdict_numbers
reserves_judged = refl

refused_by_7 : value_check [] (value 0 0) ∷ value_check [] (value 2 5) ∷ [] ≡ Err BadLength ∷ Err BadLength ∷ []
unfolding value_check value_length and_then site_rule due_rule fields_rule count_rule item_count value_rule name_byte between kind_in site_as tabulate
refused_by_7 = refl

-- with the ceiling at 5 meq per cubic metre, the greatest level is 50: 10 of hydrogen and none of aluminium, and of P 5000 400 of bicarbonate. The supply, B + W, is
-- 425 of a base deposition of 300, and 389 of 264: a load of 35, and one of −1.
abbrev losing : (deposition : ℕ) → List ℕ
losing d =
    65 ∷ 49 ∷ 0 ∷ 0 ∷ 0 ∷ 0 ∷ 0 ∷ 0 ∷ 2
    ∷ 1 ∷ 10 ∷ 65 ∷ 50 ∷ 1 ∷ 0 ∷ 200
    ∷ 0 ∷ 0 ∷ 0 ∷ 0 ∷ 0 ∷ 0 ∷ 0 ∷ 0 ∷ 0 ∷ 0 ∷ 0 ∷ 0 ∷ 0 ∷ 0 ∷ 0 ∷ 0
    ∷ 0
    ∷ 0 ∷ 50 ∷ 80 ∷ d / 256 ∷ d % 256 ∷ 3 ∷ 232 ∷ 11 ∷ 184 ∷ 0 ∷ 50 ∷ 0 ∷ 20 ∷ 1 ∷ 244 ∷ 2 ∷ 188
    ∷ 13 ∷ 0 ∷ 0 ∷ 0 ∷ 0 ∷ 19 ∷ 136 ∷ []

lost_at : map (λ (d : ℕ). value_check [] (losing d)) (300 ∷ 265 ∷ 264 ∷ []) ≡ Ok tt ∷ Ok tt ∷ Err LoadBelowZero ∷ []
unfolding value_check value_length and_then site_rule due_rule load_rule signed_max_s net bicarbonate bicarbonate_of counted_dioxide fields_rule count_rule item_count value_rule name_byte between composition_rule entries_rule known_rule stand_rule kind_in site_as entry_in tabulate terms_of up counted_temperature temperature_factor texture_of class_of weathering_of weathering available_weathering stand_sum nitrogen_uptake base_demand base_uptake_of base_uptake base_supply aluminium_limit hydrogen_of al_of greatest_where level_of hydrogen aluminium greatest_level critical_leaching denitrified undenitrified leaching
lost_at = refl
