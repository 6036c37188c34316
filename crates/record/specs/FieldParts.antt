-- Document 01, "Record, file, listing": a field is a tag, a two-byte length, a value. Numbers of two bytes have the high byte first.
use Rattle.std.specs.Prelude.{ℕ, ◌+◌, List, ◌∷◌, ◌++◌, take, drop, length}
use Rattle.numbers.specs.TwoBytes.{word_at, word_bytes}

unfoldable pub field_of : ℕ → List ℕ → List ℕ
field_of t v = t ∷ word_bytes (length v) ++ v

-- at the start of a field: its length as stated, its value, and what follows it
abbrev pub stated_len : List ℕ → ℕ
stated_len bs = word_at bs 1

abbrev pub value_at : List ℕ → List ℕ
value_at bs = take (stated_len bs) (drop 3 bs)

abbrev pub rest_at : List ℕ → List ℕ
rest_at bs = drop (3 + stated_len bs) bs
