-- Texture class from clay and sand, 1 to 5.
use Rattle.std.specs.Prelude.{ℕ, ◌&&◌, leb, ltb}
use Rattle.site.specs.Choice.{pick}
use Rattle.loads.specs.declared.texture.Texture.{Texture}
use Rattle.loads.specs.declared.texture.Texture.TheVariants.{Coarse, Medium, MediumFine, Fine, VeryFine}

abbrev pub texture_number : Texture → ℕ
texture_number Coarse = 1
texture_number Medium = 2
texture_number MediumFine = 3
texture_number Fine = 4
texture_number VeryFine = 5

unfoldable pub texture_of : (clay sand : ℕ) → ℕ
texture_of clay sand =
    pick (leb 60 clay) 5
    (pick (leb 35 clay) 4
    (pick (ltb sand 15) 3
    (pick (ltb clay 18 && leb 65 sand) 1 2)))
