-- Two sites that are one site have the same terms with the same list: no term reads name or pair, nor an entry past the count.
use mathlib.Core.Path.{◌≡◌, refl}
use mathlib.Core.List.{List}
use Prim.Native.Nat.{ℕ}
use Rattle.site.specs.Kinds.{counted_temperature, counted_dioxide}
use Rattle.site.specs.declared.Name.{Name}
use Rattle.site.specs.declared.RecordKind.{RecordKind}
use Rattle.site.specs.declared.Site.{Site}
use Rattle.site.specs.OneSite.{OneSite}
use Rattle.loads.specs.Temperature.{temperature_factor}
use Rattle.loads.specs.Weathering.{weathering, available_weathering}
use Rattle.loads.specs.Uptake.{stand_sum, nitrogen_uptake, base_demand, base_uptake}
use Rattle.loads.specs.Supply.{base_supply, aluminium_limit}
use Rattle.loads.specs.Nitrogen.{undenitrified, leaching}
use Rattle.loads.specs.SiteTerms.{terms_of}

pub terms_same : (list : List ℕ) (s t : Site) → OneSite s t → terms_of list s ≡ terms_of list t
unfolding terms_of temperature_factor weathering available_weathering stand_sum nitrogen_uptake base_demand base_uptake base_supply aluminium_limit undenitrified leaching
terms_same list s t one = cc

-- a site is one site with itself under another name, with another pair, and in a record of another kind where the same temperature and carbon dioxide count
pub one_with : (s : Site) (kind : RecordKind) (name : Name) (sulphur nitrogen temperature dioxide : ℕ)
    → counted_temperature (record s { kind = kind; name = name; sulphur = sulphur; nitrogen = nitrogen; temperature = temperature; dioxide = dioxide }) ≡ counted_temperature s
    → counted_dioxide (record s { kind = kind; name = name; sulphur = sulphur; nitrogen = nitrogen; temperature = temperature; dioxide = dioxide }) ≡ counted_dioxide s
    → OneSite (record s { kind = kind; name = name; sulphur = sulphur; nitrogen = nitrogen; temperature = temperature; dioxide = dioxide }) s
one_with s kind name sulphur nitrogen temperature dioxide counts lost = record {
  parent = refl;
  clay = refl;
  sand = refl;
  depth = refl;
  drainage = refl;
  percolation = refl;
  stand = refl;
  immobilisation = refl;
  available = refl;
  deposition = refl;
  ratio = refl;
  gibbsite = refl;
  ceiling = refl;
  leachate = refl;
  temperature = counts;
  dioxide = lost;
}
