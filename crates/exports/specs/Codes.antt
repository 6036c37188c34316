-- What the C interface gives back: one number.
use Rattle.std.specs.Prelude.{ℕ, ◌+◌, ◌*◌, ◌%◌, ◌<◌, ◌≡◌, List, Result, Ok, Err, length}
use Rattle.site.specs.Refusal.{rule_number}
use Rattle.site.specs.declared.Refusal.{Refusal}
use Rattle.site.specs.declared.Site.{Site}
use Rattle.output.specs.Output.{Written, room_rule, write_answer, held}

-- 2³²
abbrev pub code_base : ℕ
code_base = 4294967296

-- a count is given as itself, a refusal as rule number × 2³² + offset, the offset modulo 2³²
unfoldable pub written_code : Written → ℕ
written_code (Ok n) = n
written_code (Err r) = rule_number r.rule * code_base + r.at % code_base

-- What the number r says: it decodes to the answer. A count is given as itself and is below 2³². A refusal is rule number × 2³² + offset, and the offset is below
-- 2³²: so r / 2³² is the rule's number, 0 for a count, and r % 2³² the offset.
pub record Decodes (answer : Written) (r : ℕ) : Type 0 where
  pub below : r < code_base → answer ≡ Ok r
  pub count : (n : ℕ) → answer ≡ Ok n → (r ≡ n) × (r < code_base)
  pub refusal : (e : Refusal) → answer ≡ Err e → (r ≡ rule_number e.rule * code_base + e.at) × (e.at < code_base)

-- counts and offsets that one number has room for
pub record Small (answer : Written) : Type 0 where
  pub count : (n : ℕ) → answer ≡ Ok n → n < code_base
  pub offset : (e : Refusal) → answer ≡ Err e → e.at < code_base

-- a record read and written again: what the reader says, else 11 or the count of its own bytes
unfoldable pub rewrite_answer : Result Site Refusal → (bytes old : List ℕ) → Written
rewrite_answer (Ok s) b old = write_answer (room_rule (length b) (length old)) (length b)
rewrite_answer (Err r) b old = Err r

unfoldable pub rewrite_held : Result Site Refusal → (bytes old : List ℕ) → List ℕ
rewrite_held (Ok s) b old = held b old
rewrite_held (Err r) b old = old
