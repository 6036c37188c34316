-- A text of a file's records, written into a lent buffer: what is answered, and what the buffer then holds.
use Rattle.std.specs.Prelude.{ℕ, ◌≡◌, List, Ok, Err}
use Rattle.site.specs.Refusal.{rule_number}
use Rattle.output.specs.Output.{Written, held, held_numbers}
use Rattle.text.specs.TextAnswer.{text_answer, RoomWithin}
use Rattle.record.specs.File.{Contents}

-- the first fault, else 11 or how many bytes the text has
unfoldable pub file_answer : {A : Type 0} → (List A → List ℕ) → Contents A → List ℕ → Written
file_answer text (Ok xs) d = text_answer (text xs) d
file_answer text (Err r) d = Err r

-- the same in document 01's numbers
unfoldable pub file_numbers : {A : Type 0} → (List A → List ℕ) → Contents A → List ℕ → ℕ × ℕ
file_numbers text (Ok xs) d = held_numbers (text xs) d
file_numbers text (Err r) d = (rule_number r.rule, r.at)

unfoldable pub file_held : {A : Type 0} → (List A → List ℕ) → Contents A → List ℕ → List ℕ
file_held text (Ok xs) d = held (text xs) d
file_held text (Err r) d = d

-- where the checks let the file pass, a buffer of `most` bytes is enough for its text
abbrev pub FileRoom : {A : Type 0} → ℕ → (List A → List ℕ) → Contents A → List ℕ → Written → Type 0
FileRoom {A} most text c d r = (xs : List A) → c ≡ Ok xs → RoomWithin most (text xs) d r
