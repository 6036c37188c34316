-- Site A1 of document 01 passes the whole check, whatever the list; the values that document 01 gives for it; those of the same site with root depth 51 at
-- 20 °C, with a stand of which one species stands in a list, and as a reserve.
use Rattle.std.proofs.Common.{◌∙◌}
use Rattle.std.specs.Prelude.{ℕ, ◌≡◌, refl, List, [], ◌∷◌, negsuc, Ok, Err}
use Rattle.site.specs.Check.{fields_rule, due_rule}
use Rattle.site.specs.Refusal.{and_then}
use Rattle.site.specs.Values.{count_rule, item_count, value_rule, name_byte, between, composition_rule, entries_rule, species_known, known_rule, stand_rule, entry_ranged, rising_from, shares_of}
use Rattle.site.specs.ExampleSite.{a1, a1_reserve}
use Rattle.site.specs.declared.Site.{Site}
use Rattle.site.specs.Bounds.{no_entry}
use Rattle.site.specs.SpeciesList.{first_failing, place_of}
use Rattle.site.specs.declared.RecordKind.TheVariants.{Tag53, Tag54, Tag55}
use Rattle.site.specs.declared.Rule.TheVariants.{LoadBelowZero}
use Rattle.loads.specs.Rounding.{up}
use Rattle.loads.specs.Texture.{texture_of}
use Rattle.site.specs.Kinds.{counted_temperature, counted_dioxide}
use Rattle.loads.specs.Temperature.{temperature_factor}
use Rattle.loads.specs.Weathering.{class_of, weathering_of, weathering, available_weathering}
use Rattle.loads.specs.Uptake.{species_row, content, nitrogen_in, base_in, weight_of, stand_sum, nitrogen_uptake, base_demand, base_uptake_of, base_uptake}
use Rattle.loads.specs.Hydrogen.{hydrogen_of, al_of, bicarbonate_of, greatest_where, level_of, hydrogen, aluminium, bicarbonate, net, greatest_level, critical_leaching}
use Rattle.loads.specs.Supply.{base_supply, aluminium_limit}
use Rattle.loads.specs.Nitrogen.{denitrified, undenitrified, leaching}
use Rattle.loads.specs.SiteTerms.{terms_of}
use Rattle.loads.specs.MaxS.{not_negative, signed_max_s, load_rule, cl_max_s}
use Rattle.loads.specs.CriticalLoads.{cl_min_n, cl_max_n, cl_nut_n}
use Rattle.loads.specs.Check.{site_rule}
use Rattle.loads.proofs.WithoutBicarbonateLaws.{unlost_check}

a1_passes : (list : List ℕ) → site_rule list a1 ≡ Ok tt
unfolding counted_dioxide due_rule fields_rule and_then item_count count_rule name_byte between entry_ranged rising_from shares_of composition_rule entries_rule species_known known_rule stand_rule value_rule
a1_passes list = unlost_check list a1 refl ∙ refl

-- W, w, Nu, Bu, A, h, al of a level above it, M, L, and the four loads
abbrev shown : List ℕ → Site → (above : ℕ) → List ℕ
shown list s above =
    let t = terms_of list s in
    weathering s ∷ available_weathering s ∷ t.Nu ∷ base_uptake list s ∷ t.A ∷ greatest_level t
    ∷ aluminium t above ∷ not_negative (critical_leaching t) ∷ t.L ∷ cl_max_s t ∷ cl_min_n t ∷ cl_max_n t ∷ cl_nut_n t ∷ []

-- byte 25, at which t is 1690: W is 12750 × 1690 / 100,000, down, 215; rounded before t is applied it would be 214
abbrev warm : Site
warm = record a1 { kind = Tag53; depth = 51; temperature = 25 }

-- a record of kind 54 whose stand is pine and species 300, and a list where that number is the second of two
abbrev mixed : Site
mixed = record a1 {
  kind = Tag54;
  stand = record { entries = record { species = 0; share = 40; yield_kg = 2000 } ∷ record { species = 300; share = 60; yield_kg = 500 } ∷ no_entry ∷ no_entry ∷ []; count = 2 };
}

abbrev two_species : List ℕ
two_species =
    1 ∷ 0 ∷ 0 ∷ 100 ∷ 0 ∷ 200 ∷ 1 ∷ 44 ∷ 1 ∷ 144 ∷  -- 256: 100 200 300 400
    1 ∷ 44 ∷ 156 ∷ 64 ∷ 78 ∷ 32 ∷ 19 ∷ 136 ∷ 255 ∷ 255 ∷ []  -- 300: 40000 20000 5000 65535

terms : shown [] a1 819 ≡ 125 ∷ 100 ∷ 155 ∷ 181 ∷ 328 ∷ 818 ∷ 329 ∷ 491 ∷ 40 ∷ 735 ∷ 205 ∷ 1021 ∷ 249 ∷ []
unfolding terms_of up counted_temperature temperature_factor texture_of class_of weathering_of weathering available_weathering species_row content nitrogen_in base_in weight_of stand_sum nitrogen_uptake base_demand base_uptake_of base_uptake base_supply aluminium_limit hydrogen_of al_of greatest_where level_of hydrogen aluminium bicarbonate_of bicarbonate net greatest_level critical_leaching counted_dioxide signed_max_s denitrified undenitrified leaching cl_max_s cl_min_n cl_max_n cl_nut_n
terms = refl

-- h is 899
terms_at_20 : shown [] warm 900 ≡ 215 ∷ 172 ∷ 155 ∷ 181 ∷ 436 ∷ 899 ∷ 437 ∷ 614 ∷ 40 ∷ 948 ∷ 205 ∷ 1258 ∷ 249 ∷ []
unfolding terms_of up counted_temperature temperature_factor texture_of class_of weathering_of weathering available_weathering species_row content nitrogen_in base_in weight_of stand_sum nitrogen_uptake base_demand base_uptake_of base_uptake base_supply aluminium_limit hydrogen_of al_of greatest_where level_of hydrogen aluminium bicarbonate_of bicarbonate net greatest_level critical_leaching counted_dioxide signed_max_s denitrified undenitrified leaching cl_max_s cl_min_n cl_max_n cl_nut_n
terms_at_20 = refl

-- Nu from 2,588,610,000 and the base demand, up, from 2,672,320,000
terms_of_mixed : shown two_species mixed 693 ≡ 125 ∷ 100 ∷ 258 ∷ 268 ∷ 198 ∷ 692 ∷ 199 ∷ 336 ∷ 40 ∷ 493 ∷ 308 ∷ 855 ∷ 352 ∷ []
unfolding terms_of up counted_temperature temperature_factor texture_of class_of weathering_of weathering available_weathering species_row content nitrogen_in base_in weight_of stand_sum nitrogen_uptake base_demand base_uptake_of base_uptake base_supply aluminium_limit hydrogen_of al_of greatest_where level_of hydrogen aluminium bicarbonate_of bicarbonate net greatest_level critical_leaching counted_dioxide signed_max_s denitrified undenitrified leaching cl_max_s cl_min_n cl_max_n cl_nut_n first_failing place_of
terms_of_mixed = refl

-- Nu and Bu are 0, so A is 1500 × 400 / 1000; h is 1000, the ceiling, where al is just A
terms_of_reserve : (list : List ℕ) → shown list a1_reserve 1001 ≡ 125 ∷ 100 ∷ 0 ∷ 0 ∷ 600 ∷ 1000 ∷ 601 ∷ 800 ∷ 40 ∷ 1225 ∷ 50 ∷ 1411 ∷ 94 ∷ []
unfolding terms_of up counted_temperature temperature_factor texture_of class_of weathering_of weathering available_weathering species_row content nitrogen_in base_in weight_of stand_sum nitrogen_uptake base_demand base_uptake_of base_uptake base_supply aluminium_limit hydrogen_of al_of greatest_where level_of hydrogen aluminium bicarbonate_of bicarbonate net greatest_level critical_leaching counted_dioxide signed_max_s denitrified undenitrified leaching cl_max_s cl_min_n cl_max_n cl_nut_n
terms_of_reserve list = refl

-- a record of kind 55 with ceiling 50 and P 5000: bicarbonate 400, hydrogen 10 and no aluminium, so M is −390
abbrev limed : Site
limed = record a1 { kind = Tag55; ceiling = 50; dioxide = 5000 }

bicarbonate_at_50 : greatest_level (terms_of [] limed) ∷ bicarbonate (terms_of [] limed) 50 ∷ [] ≡ 50 ∷ 400 ∷ []
unfolding terms_of up counted_temperature temperature_factor texture_of class_of weathering_of weathering available_weathering species_row content nitrogen_in base_in weight_of stand_sum nitrogen_uptake base_demand base_uptake_of base_uptake base_supply aluminium_limit hydrogen_of al_of greatest_where level_of hydrogen aluminium bicarbonate_of bicarbonate greatest_level counted_dioxide denitrified undenitrified leaching
bicarbonate_at_50 = refl

-- at A1's own ceiling h is 818, and 1,000,000 / 40,900, up, takes 25 from 491
terms_with_bicarbonate : shown [] (record a1 { kind = Tag55; dioxide = 5000 }) 819 ≡ 125 ∷ 100 ∷ 155 ∷ 181 ∷ 328 ∷ 818 ∷ 329 ∷ 466 ∷ 40 ∷ 710 ∷ 205 ∷ 993 ∷ 249 ∷ []
unfolding terms_of up counted_temperature temperature_factor texture_of class_of weathering_of weathering available_weathering species_row content nitrogen_in base_in weight_of stand_sum nitrogen_uptake base_demand base_uptake_of base_uptake base_supply aluminium_limit hydrogen_of al_of greatest_where level_of hydrogen aluminium bicarbonate_of bicarbonate net greatest_level critical_leaching counted_dioxide signed_max_s denitrified undenitrified leaching cl_max_s cl_min_n cl_max_n cl_nut_n
terms_with_bicarbonate = refl

-- CLmaxS would be −146
below_zero : (critical_leaching (terms_of [] limed) ≡ negsuc 389) × (signed_max_s (terms_of [] limed) ≡ negsuc 145) × (load_rule (terms_of [] limed) ≡ Err LoadBelowZero)
unfolding terms_of up counted_temperature temperature_factor texture_of class_of weathering_of weathering available_weathering species_row content nitrogen_in base_in weight_of stand_sum nitrogen_uptake base_demand base_uptake_of base_uptake base_supply aluminium_limit hydrogen_of al_of greatest_where level_of hydrogen aluminium bicarbonate_of bicarbonate net greatest_level critical_leaching counted_dioxide signed_max_s load_rule denitrified undenitrified leaching
below_zero = (refl, refl, refl)
