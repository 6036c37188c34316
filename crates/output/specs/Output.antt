-- Output into a lent buffer: rule 11, what the buffer then holds, and the answer with its numbers.
use Rattle.std.specs.Prelude.{ℕ, List, ◌++◌, leb, length, drop, Result, Ok, Err}
use Rattle.site.specs.Choice.{pick}
use Rattle.site.specs.Refusal.{rule_number, and_then, Checked, unless}
use Rattle.site.specs.declared.Rule.TheVariants.{BufferShort}
use Rattle.site.specs.declared.Refusal.{Refusal}

-- rule 11, where `needed` elements are to stand in a buffer of `room`
unfoldable pub room_rule : (needed room : ℕ) → Checked
room_rule needed room = pick (leb needed room) (Ok tt) (Err BufferShort)

-- all that an output can break: its own rules, then 11
unfoldable pub output_rule : Checked → (needed room : ℕ) → Checked
output_rule own needed room = and_then own (room_rule needed room)

-- what the buffer then holds: the output and what stood behind it, or what it held before
unfoldable pub held_after : {A : Type 0} → Checked → (xs old : List A) → List A
held_after (Ok tt) xs old = xs ++ drop (length xs) old
held_after (Err r) xs old = old

-- what is answered: how many elements were written, or the refusal
abbrev pub Written : Type 0
Written = Result ℕ Refusal

-- the same by what the output can break: the rule that is broken, at 0
abbrev pub write_answer : Checked → ℕ → Written
write_answer c n = unless c 0 (Ok n)

-- an answer in 01's numbers: that of the refusal, or 0; then how many elements were written, or the offset
unfoldable pub written_numbers : Written → ℕ × ℕ
written_numbers (Ok n) = (0, n)
written_numbers (Err r) = (rule_number r.rule, r.at)

-- the same by what the output can break: the number, or 0; then the count, or the offset 0
unfoldable pub output_numbers : Checked → ℕ → ℕ × ℕ
output_numbers (Ok tt) n = (0, n)
output_numbers (Err r) n = (rule_number r, 0)

-- how many elements were written
unfoldable pub output_count : Checked → ℕ → ℕ
output_count (Ok tt) n = n
output_count (Err r) n = 0

-- buffer and numbers of an output that no rule but 11 can refuse
abbrev pub held : {A : Type 0} → (xs old : List A) → List A
held xs old = held_after (room_rule (length xs) (length old)) xs old

abbrev pub held_numbers : {A : Type 0} → (xs old : List A) → ℕ × ℕ
held_numbers xs old = output_numbers (room_rule (length xs) (length old)) (length xs)
