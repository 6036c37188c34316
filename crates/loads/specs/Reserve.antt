-- What a reserve takes up: nothing, so that all of its bases are supply (document 02, E8).
use Rattle.std.specs.Prelude.{◌≡◌, ◌+◌, ℕ, List}
use Rattle.site.specs.declared.Site.{Site}
use Rattle.site.specs.Reserve.{Reserve}
use Rattle.loads.specs.Weathering.{weathering, available_weathering}
use Rattle.loads.specs.Uptake.{base_demand, base_uptake}
use Rattle.loads.specs.Supply.{limit_of}
use Rattle.loads.specs.SiteTerms.{terms_of}

pub record NoUptake (list : List ℕ) (s : Site) : Type 0 where
  pub nitrogen : (terms_of list s).Nu ≡ 0
  pub demand : base_demand list s ≡ 0
  pub bases : base_uptake list s ≡ 0
  pub supply : (terms_of list s).supply ≡ s.base_deposition + weathering s
  pub limit : (terms_of list s).A ≡ limit_of (s.base_deposition + available_weathering s) s.ratio

-- at every reserve, whatever the list, and whether or not it passes the check
abbrev pub ReservesTakeUpNothing : Type 0
ReservesTakeUpNothing = (list : List ℕ) (s : Site) → Reserve s → NoUptake list s
