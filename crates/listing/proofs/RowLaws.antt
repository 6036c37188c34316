-- What a record's line shows: the loads of its site, and the region and both exceedances of its own pair, also where it is within.
use mathlib.Core.Path.{◌≡◌}
use mathlib.Core.List.{List, [], ◌∷◌}
use Prim.Native.Nat.{ℕ}
use Rattle.site.specs.declared.Site.{Site}
use Rattle.loads.specs.SiteTerms.{terms_of}
use Rattle.loads.specs.MaxS.{cl_max_s}
use Rattle.loads.specs.CriticalLoads.{cl_min_n, cl_max_n, cl_nut_n, loads_of, load_numbers}
use Rattle.judgement.specs.Regions.{region_number}
use Rattle.judgement.specs.Verdicts.{region, acid_exceedance, nutrient_exceedance}
use Rattle.judgement.specs.Answers.{judged_of}
use Rattle.judgement.proofs.JudgementAnswers.{numbers_are}
use Rattle.text.specs.Line.{numbers_of}
use Rattle.listing.specs.Rows.{row_by, row_of}

pub row_numbers : (list : List ℕ) (s : Site) → let t = terms_of list s in
    numbers_of (row_of list s)
    ≡ cl_max_s t ∷ cl_min_n t ∷ cl_max_n t ∷ cl_nut_n t ∷ region_number (region t s.sulphur s.nitrogen) ∷ acid_exceedance t s.sulphur s.nitrogen ∷ nutrient_exceedance t s.nitrogen ∷ []
unfolding numbers_of load_numbers loads_of row_of row_by judged_of
row_numbers list s = rw (numbers_are (terms_of list s) s.sulphur s.nitrogen)
