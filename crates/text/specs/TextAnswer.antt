-- The answer of a call that writes a text into a lent buffer.
use Rattle.std.specs.Prelude.{ℕ, ◌≤◌, ◌≡◌, List, length, Ok}
use Rattle.output.specs.Output.{Written, room_rule, write_answer}
use Rattle.text.specs.TextLengths.{most_text}

-- what is answered where text is to be written into d: 11 at 0 exactly where d is shorter
abbrev pub text_answer : List ℕ → List ℕ → Written
text_answer text d = write_answer (room_rule (length text) (length d)) (length text)

-- the text has at most `most` bytes, so where d has as many, 11 never comes
pub record RoomWithin (most : ℕ) (text d : List ℕ) (r : Written) : Type 0 where
  pub bounded : length text ≤ most
  pub fits : most ≤ length d → r ≡ Ok (length text)

-- the same of a listing or a refusal's line
abbrev pub RoomEnough : List ℕ → List ℕ → Written → Type 0
RoomEnough text d r = RoomWithin most_text text d r
