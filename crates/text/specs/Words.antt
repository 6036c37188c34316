-- Lines and words of a text.
use Rattle.std.specs.Prelude.{ℕ, Bool, not, List, [], ◌∷◌, eqb, get_or}
use Rattle.std.specs.List.{slice_split, list_all}

-- a text cut at each byte b: what stands between the bytes b, before the first and after the last
unfoldable pub split : ℕ → List ℕ → List (List ℕ)
split b text = slice_split (λ x. eqb x b) text

unfoldable pub last_or : List ℕ → List (List ℕ) → List ℕ
last_or d [] = d
last_or d (w ∷ ws) = last_or w ws

-- the words of a line stand between spaces
unfoldable pub last_word : List ℕ → List ℕ
last_word l = last_or [] (split 32 l)

-- the lines of a text stand between bytes 0A; the first has number 0
unfoldable pub line_at : ℕ → List ℕ → List ℕ
line_at k text = get_or (split 10 text) k []

-- no byte of a text is b
unfoldable pub free : ℕ → List ℕ → Bool
free b text = list_all (λ x. not (eqb x b)) text
