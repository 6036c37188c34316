-- The line of site A1 on a page, and the length of the longest pages.
use mathlib.Core.Path.{◌≡◌, refl, ap, ◌∙◌}
use mathlib.Core.List.{[]}
use Rattle.site.specs.ExampleSite.{a1}
use Rattle.loads.specs.Rounding.{up}
use Rattle.loads.specs.Texture.{texture_of}
use Rattle.site.specs.Kinds.{counted_temperature, counted_dioxide}
use Rattle.loads.specs.Temperature.{temperature_factor}
use Rattle.loads.specs.Weathering.{class_of, weathering_of, weathering, available_weathering}
use Rattle.loads.specs.Uptake.{species_row, content, nitrogen_in, base_in, weight_of, stand_sum, nitrogen_uptake, base_demand, base_uptake_of, base_uptake}
use Rattle.loads.specs.Hydrogen.{hydrogen_of, al_of, bicarbonate_of, greatest_where, level_of, hydrogen, aluminium, bicarbonate, net, greatest_level, critical_leaching}
use Rattle.loads.specs.Supply.{base_supply, aluminium_limit}
use Rattle.loads.specs.Nitrogen.{denitrified, undenitrified, leaching}
use Rattle.loads.specs.SiteTerms.{terms_of}
use Rattle.loads.specs.MaxS.{signed_max_s, cl_max_s}
use Rattle.loads.specs.CriticalLoads.{cl_min_n, cl_max_n, cl_nut_n}
use Rattle.judgement.specs.Regions.{D, excess, region_of, acid_in, acid_of}
use Rattle.judgement.specs.Verdicts.{region, acid_exceedance, nutrient_exceedance, verdict_of, verdict, verdict_word}
use Rattle.text.specs.Decimal.{dec, decimal}
use Rattle.listing.specs.Rows.{row_of}
use Rattle.columns.specs.PageLine.{page_line, line_texts, row_line}
use Rattle.columns.proofs.ExampleLine.{a1_texts, a1_line, a1_columns}
use Rattle.pages.specs.Pages.{most_pages}
use Rattle.pages.specs.PagesDemand3.{shown}
use Rattle.pages.proofs.SiteColumns.{row_shown}

a1_shown : shown [] a1 ≡ a1_texts
unfolding shown line_texts terms_of up counted_temperature temperature_factor texture_of class_of weathering_of weathering available_weathering species_row content nitrogen_in base_in weight_of stand_sum nitrogen_uptake base_demand base_uptake_of base_uptake base_supply aluminium_limit hydrogen_of al_of greatest_where level_of hydrogen aluminium bicarbonate_of bicarbonate net greatest_level critical_leaching counted_dioxide signed_max_s denitrified undenitrified leaching cl_max_s cl_min_n cl_max_n cl_nut_n D excess region_of acid_in acid_of region acid_exceedance nutrient_exceedance verdict_of verdict verdict_word dec decimal
a1_shown = refl

a1_line_lem : row_line (row_of [] a1) ≡ a1_line
a1_line_lem = row_shown [] a1 ∙ ap page_line a1_shown ∙ a1_columns

most : most_pages ≡ 33085
most = refl
