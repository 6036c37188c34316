-- Numbers put at the front of a lent slice: what is answered, and what the slice then holds.
use Rattle.std.specs.Prelude.{ℕ, List, Result, Ok, Err, length}
use Rattle.site.specs.declared.Refusal.{Refusal}
use Rattle.output.specs.Output.{Written, room_rule, write_answer, held}

unfoldable pub numbers_written : Result (List ℕ) Refusal → (room : ℕ) → Written
numbers_written (Ok ns) room = write_answer (room_rule (length ns) room) (length ns)
numbers_written (Err refusal) room = Err refusal

unfoldable pub numbers_held : Result (List ℕ) Refusal → (old : List ℕ) → List ℕ
numbers_held (Ok ns) old = held ns old
numbers_held (Err refusal) old = old
