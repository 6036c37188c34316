-- Denitrification, and the acceptable leaching of nitrogen.
use Rattle.std.specs.Prelude.{ℕ, ◌*◌, ◌-◌, ◌/◌, List, [], ◌∷◌, eqb, get_or}
use Rattle.site.specs.Choice.{pick}
use Rattle.site.specs.declared.Site.{Site}

-- d by drainage 0 to 5, per mille, where the parent material is not organic
abbrev pub drainage_parts : List ℕ
drainage_parts = 0 ∷ 100 ∷ 200 ∷ 400 ∷ 700 ∷ 800 ∷ []

-- d: for organic parent material, code 0, it is 800 at every drainage (document 02, E2)
unfoldable pub denitrified : (parent drainage : ℕ) → ℕ
denitrified parent drainage = pick (eqb parent 0) 800 (get_or drainage_parts drainage 0)

-- e = 1000 − d
unfoldable pub undenitrified : Site → ℕ
undenitrified s = 1000 - denitrified s.parent s.drainage

-- L
abbrev pub leaching_of : (q c : ℕ) → ℕ
leaching_of q c = q * c / 100

unfoldable pub leaching : Site → ℕ
leaching s = leaching_of s.percolation s.leachate
