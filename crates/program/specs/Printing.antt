-- What is printed.
use Rattle.std.specs.Prelude.{ℕ, ◌≡◌, List, [], length, take}
use Rattle.output.specs.Output.{room_rule, output_count}
use Rattle.listing.specs.Reports.{report_of}
use Rattle.program.specs.declared.ReadState.{ReadState}
use Rattle.program.specs.declared.ReadState.TheVariants.{More, Ended, Failed}

-- how many bytes are shown of a text for which d is lent
abbrev pub shown_length : List ℕ → List ℕ → ℕ
shown_length text d = output_count (room_rule (length text) (length d)) (length text)

-- the report of the bytes that were read, where the reading has ended, with the file or with a full buffer; nothing after a failed read
unfoldable pub output_of : ReadState → List ℕ → List ℕ
output_of (Ended n) b = report_of [] (take n b)
output_of (More n) b = []
output_of Failed b = []

-- the buffer b holds the file f, or as many of its first bytes as it takes
pub record ReadFrom (f b : List ℕ) (r : ReadState) : Type 0 where
  pub count : ℕ
  pub ended : r ≡ Ended count
  pub bytes : take count b ≡ take (length b) f
