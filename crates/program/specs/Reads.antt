-- Reading a file into a buffer.
use Rattle.std.specs.Prelude.{ℕ, ◌+◌, ◌<◌, ◌==◌, ◌≡◌, ◌⊎◌, nat_lt, if◌then◌else◌, List, Option, Some, None, length, take}
use Rattle.std.specs.Io.KnownBytes.{Keeps, Consumes, IsAtEnd}
use Rattle.program.specs.declared.Input.{Input}
use Rattle.program.specs.declared.ReadState.{ReadState}
use Rattle.program.specs.declared.ReadState.TheVariants.{More, Ended, Failed}

-- What a read gave, how many bytes or None where it failed, into a place that then holds `part`. The reader had `old` left before it and has
-- `new` after, where that is known: it lost the bytes that it put at the front of `part`, none only at its end or where there was no room, and
-- none where it failed.
abbrev pub Given : Option (List ℕ) → Option (List ℕ) → List ℕ → Option ℕ → Type 0
Given old new part (Some n) = Consumes old new (take n part) × (n ≡ 0 → 0 < length part → IsAtEnd new)
Given old new part None = Keeps old new

-- `done` bytes are in a buffer of `size`, and a read gave more, or failed: after 0 bytes the file has ended. Once the buffer is full no more is
-- read; that a read gave more than the buffer takes counts as a failure.
unfoldable pub after_read : (size done : ℕ) → Option ℕ → ReadState
after_read size done None = Failed
after_read size done (Some n) =
    if n == 0 then Ended done
    else (if nat_lt (done + n) size then More (done + n) else (if done + n == size then Ended size else Failed))

-- One read: no byte that was there before is altered, and what the read gave decides what follows.
pub record ReadOnce (before after : List ℕ) (done : ℕ) (i : Input) : Type 0 where
  pub kept : take done after ≡ take done before
  pub next : i.reading ≡ after_read (length before) done i.last

-- All reads into a buffer of `size`. Where the last one starts, `done` bytes are there: none, or fewer than the buffer takes. What it gave
-- decides, and does not leave more to come. What the reads before it gave no contract can name.
pub record ReadAll (size : ℕ) (i : Input) : Type 0 where
  pub done : ℕ
  pub room : (done ≡ 0) ⊎ (done < size)
  pub next : i.reading ≡ after_read size done i.last
  pub stopped : (n : ℕ) → i.reading ≡ More n → ⊥
