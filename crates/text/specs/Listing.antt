-- The listing: a header line, then a line for each row.
use Rattle.std.specs.Prelude.{ℕ, List, ◌++◌, codes, flat_map}
use Rattle.text.specs.declared.Row.{Row}
use Rattle.text.specs.Line.{line}

unfoldable pub head_text : List ℕ
head_text = codes "id maxS minN maxN nutN region acidEx nutEx verdict"

unfoldable pub header : List ℕ
header = head_text ++ codes "\n"

unfoldable pub listing : List Row → List ℕ
listing rs = header ++ flat_map line rs
