-- The bases that uptake leaves: the base supply, and the aluminium limit.
use Rattle.std.specs.Prelude.{ℕ, ◌+◌, ◌*◌, ◌-◌, ◌/◌, List}
use Rattle.site.specs.declared.Site.{Site}
use Rattle.loads.specs.Weathering.{weathering, available_weathering}
use Rattle.loads.specs.Uptake.{base_uptake}

-- B + W − Bu
unfoldable pub base_supply : List ℕ → Site → ℕ
base_supply list s = s.base_deposition + weathering s - base_uptake list s

-- A, where left is B + w − Bu
abbrev pub limit_of : (left ratio : ℕ) → ℕ
limit_of left ratio = 1500 * left / ratio

unfoldable pub aluminium_limit : List ℕ → Site → ℕ
aluminium_limit list s = limit_of (s.base_deposition + available_weathering s - base_uptake list s) s.ratio
