-- The mark of each line of a listing.
use Rattle.std.specs.Prelude.{ℕ, suc, ◌<◌, true, ◌≡◌, List, get_or, length, take, Ok}
use Rattle.text.specs.declared.Row.{Row}
use Rattle.output.specs.Output.{Written}
use Rattle.judgement.specs.Verdicts.{verdict_word}
use Rattle.text.specs.Line.{name_text, blank_row}
use Rattle.text.specs.Words.{last_word, line_at, free}

-- no name has a 0A
abbrev pub Plain : List Row → Type 0
Plain rs = (k : ℕ) → k < length rs → free 10 (name_text (get_or rs k blank_row)) ≡ true

-- in the listing that stands in the first bytes of out, the last word of line k + 1 is the mark of row k
abbrev pub Marked : List Row → List ℕ → Written → Type 0
Marked rs out r =
    (n k : ℕ) → r ≡ Ok n → Plain rs → k < length rs → last_word (line_at (suc k) (take n out)) ≡ verdict_word (get_or rs k blank_row).verdict
