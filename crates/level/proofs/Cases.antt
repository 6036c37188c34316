-- Site A1 of document 01 with four hydrogen ceilings: a computed proof that the definitions give the levels of the table, and that each site passes the check.
use Rattle.std.proofs.Common.{◌∙◌}
use Rattle.std.specs.Prelude.{ℕ, ◌≡◌, refl, [], ◌∷◌, map, length, Ok}
use Rattle.site.specs.Check.{fields_rule, due_rule}
use Rattle.site.specs.Refusal.{and_then}
use Rattle.site.specs.Values.{count_rule, item_count, value_rule, name_byte, between, composition_rule, entries_rule, species_known, known_rule, stand_rule, entry_ranged, rising_from, shares_of}
use Rattle.loads.specs.Rounding.{up}
use Rattle.loads.specs.Texture.{texture_of}
use Rattle.site.specs.Kinds.{counted_temperature, counted_dioxide}
use Rattle.loads.specs.Check.{site_rule}
use Rattle.loads.proofs.WithoutBicarbonateLaws.{unlost_check}
use Rattle.loads.specs.Temperature.{temperature_factor}
use Rattle.loads.specs.Weathering.{class_of, weathering_of, weathering, available_weathering}
use Rattle.loads.specs.Uptake.{species_row, content, base_in, weight_of, stand_sum, base_demand, base_uptake_of, base_uptake}
use Rattle.loads.specs.Hydrogen.{al_of, greatest_where, level_of, greatest_level}
use Rattle.loads.specs.Supply.{aluminium_limit}
use Rattle.loads.specs.SiteTerms.{terms_of}
use Rattle.loads.specs.Search.{means_in, means, compared_of, levels_compared}
use Rattle.level.specs.Cases.{a1_with, LevelCase, cases, computed}

agrees : map (λ (c : LevelCase). computed c.ceiling) cases ≡ cases
unfolding cases terms_of up counted_temperature temperature_factor texture_of class_of weathering_of weathering available_weathering species_row content base_in weight_of stand_sum base_demand base_uptake_of base_uptake aluminium_limit al_of greatest_where level_of greatest_level means_in means compared_of levels_compared
agrees = refl

-- none of them has carbon dioxide, so the whole check is that of the fields
checked : (h : ℕ) → due_rule [] (a1_with h) ≡ Ok tt → site_rule [] (a1_with h) ≡ Ok tt
unfolding counted_dioxide
checked h e = unlost_check [] (a1_with h) refl ∙ e

passes : map (λ (c : LevelCase). site_rule [] (a1_with c.ceiling)) cases ≡ (Ok tt) ∷ (Ok tt) ∷ (Ok tt) ∷ (Ok tt) ∷ []
unfolding cases due_rule fields_rule and_then count_rule item_count value_rule name_byte between composition_rule entries_rule species_known known_rule stand_rule entry_ranged rising_from shares_of
passes = rw (checked 1000 refl, checked 818 refl, checked 819 refl, checked 5000 refl)

-- so some site takes 14
fourteen : (site_rule [] (a1_with 5000) ≡ Ok tt) × (length (levels_compared (terms_of [] (a1_with 5000))) ≡ 14)
unfolding due_rule fields_rule and_then count_rule item_count value_rule name_byte between composition_rule entries_rule species_known known_rule stand_rule entry_ranged rising_from shares_of terms_of up counted_temperature temperature_factor texture_of class_of weathering_of weathering available_weathering species_row content base_in weight_of stand_sum base_demand base_uptake_of base_uptake aluminium_limit al_of greatest_where level_of greatest_level means_in means compared_of levels_compared
fourteen = (checked 5000 refl, refl)
