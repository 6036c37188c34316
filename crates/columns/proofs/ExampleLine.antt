-- The line of site A1: its values in their columns.
use mathlib.Core.Path.{◌≡◌, refl}
use Prim.Native.Nat.{ℕ}
use mathlib.Core.List.{List, [], ◌∷◌}
use Rattle.std.specs.Prelude.{codes}
use Rattle.text.specs.Decimal.{dec, decimal}
use Rattle.columns.specs.PageLine.{left_in, right_in, in_columns, page_line, line_texts}

-- A1, 735, 205, 1021, 249, 2, 221, 451, over
abbrev pub a1_texts : List (List ℕ)
a1_texts = line_texts (codes "A1") (735 ∷ 205 ∷ 1021 ∷ 249 ∷ 2 ∷ 221 ∷ 451 ∷ []) (codes "over")

abbrev pub a1_line : List ℕ
a1_line = codes "A1           735     205    1021     249 2    221    451   over "

pub a1_columns : page_line a1_texts ≡ a1_line
unfolding page_line in_columns left_in right_in line_texts dec decimal
a1_columns = refl
