-- A line of a page: columns without gaps between them, and one space at the end.
use Rattle.std.specs.Prelude.{ℕ, ◌-◌, List, [], ◌∷◌, ◌++◌, codes, flat_map, map, zip, length, get_or, take, replicate}
use Rattle.judgement.specs.Verdicts.{verdict_word}
use Rattle.text.specs.declared.Row.{Row}
use Rattle.text.specs.Decimal.{decimal}
use Rattle.text.specs.Line.{numbers_of, name_text}
use Rattle.text.specs.Listing.{head_text}
use Rattle.text.specs.Words.{split}

-- a text in a column of w characters, aligned left or right: cut to its first w, and filled with spaces
unfoldable pub left_in : ℕ → List ℕ → List ℕ
left_in w t = take w t ++ replicate (w - length t) 32

unfoldable pub right_in : ℕ → List ℕ → List ℕ
right_in w t = replicate (w - length t) 32 ++ take w t

-- nine texts in their columns: name, the four loads, region, the two exceedances, verdict
unfoldable pub in_columns : List (List ℕ) → List ℕ
in_columns ts =
    left_in 8 (get_or ts 0 [])
    ++ right_in 8 (get_or ts 1 [])
    ++ right_in 8 (get_or ts 2 [])
    ++ right_in 8 (get_or ts 3 [])
    ++ right_in 8 (get_or ts 4 [])
    ++ right_in 2 (get_or ts 5 [])
    ++ right_in 7 (get_or ts 6 [])
    ++ right_in 7 (get_or ts 7 [])
    ++ right_in 7 (get_or ts 8 [])

unfoldable pub page_line : List (List ℕ) → List ℕ
page_line ts = in_columns ts ++ codes " "

-- the header's words
unfoldable pub head_line : List ℕ
head_line = page_line (split 32 head_text)

-- a name, seven numbers and a mark, and those of a row
unfoldable pub line_texts : (name numbers mark : List ℕ) → List (List ℕ)
line_texts name numbers mark = name ∷ (map decimal numbers ++ (mark ∷ []))

unfoldable pub row_texts : Row → List (List ℕ)
row_texts r = line_texts (name_text r) (numbers_of r) (verdict_word r.verdict)

unfoldable pub row_line : Row → List ℕ
row_line r = page_line (row_texts r)

-- As the line is written: the widths of the columns of the numbers, four loads, the region and two exceedances,
abbrev pub number_widths : List ℕ
number_widths = 8 ∷ 8 ∷ 8 ∷ 8 ∷ 2 ∷ 7 ∷ 7 ∷ []

-- and seven numbers, each in its column.
abbrev pub in_column : ℕ × ℕ → List ℕ
in_column p = right_in p.1 (decimal p.0)

unfoldable pub number_columns : List ℕ → List ℕ
number_columns ns = flat_map in_column (zip ns number_widths)

-- a line with its end
unfoldable pub ended : List ℕ → List ℕ
ended l = l ++ codes "\n"
