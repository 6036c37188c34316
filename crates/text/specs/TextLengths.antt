-- The greatest lengths of texts, each written once.
use Rattle.std.specs.Prelude.{ℕ, ◌+◌, ◌*◌}
use Rattle.site.specs.Ranges.{most_name, most_records}

-- a line: the name, 7 × 21 for a space and 20 digits, 7 for a space and the mark, 1 for 0A; 163
abbrev pub most_line : ℕ
most_line = most_name + 7 * 21 + 7 + 1

-- the lines of 500 rows; 81500
abbrev pub most_lines : ℕ
most_lines = most_records * most_line

-- the header with its 0A
abbrev pub header_length : ℕ
header_length = 51

-- the listing; 81551
abbrev pub most_text : ℕ
most_text = header_length + most_lines
