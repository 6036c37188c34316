-- A line of a page, read by its columns.
use Rattle.std.specs.Prelude.{ℕ, ◌==◌, not, List, [], ◌∷◌, map, filter, take, drop}

-- a text cut into pieces of the widths ws
unfoldable pub cut : List ℕ → List ℕ → List (List ℕ)
cut [] l = []
cut (w ∷ ws) l = take w l ∷ cut ws (drop w l)

-- a text without its spaces
unfoldable pub unspaced : List ℕ → List ℕ
unspaced l = filter (λ x. not (x == 32)) l

-- name, the four loads, region, the two exceedances, verdict
abbrev pub column_widths : List ℕ
column_widths = 8 ∷ 8 ∷ 8 ∷ 8 ∷ 8 ∷ 2 ∷ 7 ∷ 7 ∷ 7 ∷ []

-- the nine columns of a line, their spaces dropped
unfoldable pub columns_of : List ℕ → List (List ℕ)
columns_of l = map unspaced (cut column_widths l)
