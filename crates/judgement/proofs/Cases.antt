-- The cases that document 01 marks §: one computed proof that the definitions say what the table has.
use Rattle.std.specs.Prelude.{◌≡◌, refl, map}
use Rattle.loads.specs.Rounding.{up}
use Rattle.loads.specs.Texture.{texture_of}
use Rattle.site.specs.Kinds.{counted_temperature, counted_dioxide}
use Rattle.loads.specs.Temperature.{temperature_factor}
use Rattle.loads.specs.Weathering.{class_of, weathering_of, weathering, available_weathering}
use Rattle.loads.specs.Uptake.{species_row, content, nitrogen_in, base_in, weight_of, stand_sum, nitrogen_uptake, base_demand, base_uptake_of, base_uptake}
use Rattle.loads.specs.Hydrogen.{hydrogen_of, al_of, bicarbonate_of, greatest_where, level_of, hydrogen, aluminium, bicarbonate, net, greatest_level, critical_leaching}
use Rattle.loads.specs.Supply.{base_supply, aluminium_limit}
use Rattle.loads.specs.Nitrogen.{denitrified, undenitrified, leaching}
use Rattle.loads.specs.SiteTerms.{terms_of}
use Rattle.loads.specs.MaxS.{signed_max_s, cl_max_s}
use Rattle.loads.specs.CriticalLoads.{cl_min_n, cl_nut_n}
use Rattle.judgement.specs.Regions.{D, excess, region_of, acid_in, acid_of}
use Rattle.judgement.specs.Verdicts.{region, acid_exceedance, nutrient_exceedance}
use Rattle.judgement.specs.Cases.{computed, Case, table}

agrees : map (λ (r : Case). computed r.question) table ≡ map (λ (r : Case). r.given) table
unfolding table computed terms_of up counted_temperature temperature_factor texture_of class_of weathering_of weathering available_weathering species_row content nitrogen_in base_in weight_of stand_sum nitrogen_uptake base_demand base_uptake_of base_uptake base_supply aluminium_limit hydrogen_of al_of greatest_where level_of hydrogen aluminium bicarbonate_of bicarbonate net greatest_level critical_leaching counted_dioxide signed_max_s denitrified undenitrified leaching cl_max_s cl_min_n cl_nut_n D excess region_of acid_in acid_of region acid_exceedance nutrient_exceedance
agrees = refl
