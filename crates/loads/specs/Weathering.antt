-- Weathering W, and its part w that plants can take up.
use Rattle.std.specs.Prelude.{ℕ, ◌*◌, ◌-◌, ◌/◌, List, [], ◌∷◌, eqb, get_or}
use Rattle.site.specs.Choice.{pick}
use Rattle.site.specs.declared.Site.{Site}
use Rattle.loads.specs.Texture.{texture_of}
use Rattle.loads.specs.Temperature.{temperature_factor}

-- class k by texture 1 to 5
abbrev pub classes : List (List ℕ)
classes =
    (0 ∷ 0 ∷ 0 ∷ 0 ∷ 0 ∷ [])  -- 0 organic: no class
    ∷ (1 ∷ 3 ∷ 3 ∷ 6 ∷ 6 ∷ [])  -- 1 acidic
    ∷ (2 ∷ 4 ∷ 4 ∷ 6 ∷ 6 ∷ [])  -- 2 intermediate
    ∷ (2 ∷ 4 ∷ 4 ∷ 6 ∷ 6 ∷ [])  -- 3 basic
    ∷ (20 ∷ 20 ∷ 20 ∷ 20 ∷ 20 ∷ [])  -- 4 calcareous
    ∷ []

unfoldable pub class_of : (parent texture : ℕ) → ℕ
class_of parent texture = get_or (get_or classes parent []) (texture - 1) 0

-- W
unfoldable pub weathering_of : (parent clay sand depth t : ℕ) → ℕ
weathering_of parent clay sand depth t = pick (eqb parent 0) 0 ((500 * class_of parent (texture_of clay sand) - 250) * depth * t / 100000)

unfoldable pub weathering : Site → ℕ
weathering s = weathering_of s.parent s.clay s.sand s.depth (temperature_factor s)

-- w, where weathered is W and share is p
abbrev pub available_of : (weathered share : ℕ) → ℕ
available_of weathered share = weathered * share / 100

unfoldable pub available_weathering : Site → ℕ
available_weathering s = available_of (weathering s) s.available
