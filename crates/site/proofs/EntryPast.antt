-- Past the end of the bytes stands the entry of zeros.
use mathlib.Core.Path.{◌≡◌}
use mathlib.Core.List.{List}
use Prim.Native.Nat.{ℕ, ◌+◌, ◌≤◌}
use native.Mathlib.Omega.{arith}
use lib.ListN.{length}
use Rattle.numbers.proofs.PastTheEnd.{byte_past, word_past}
use Rattle.site.specs.Bounds.{no_entry}
use mathlib.Core.Bool.{Bool, true, false}
use Rattle.site.specs.Choice.{pick}
use Rattle.site.specs.declared.RecordKind.{RecordKind}
use Rattle.site.specs.Kinds.{two_byte_species}
use Rattle.site.specs.Bytes.{narrow_entry, wide_entry, entry_at}

pub entry_past : (k : RecordKind) (v : List ℕ) (i : ℕ) → length v ≤ i → entry_at k v i ≡ no_entry
unfolding entry_at
entry_past k v i h = by_width (two_byte_species k)
  where
    by_width : (wide : Bool) → pick wide (wide_entry v i) (narrow_entry v i) ≡ no_entry
    by_width true = rw (word_past v i h, byte_past v (i + 2) (omega arith), word_past v (i + 3) (omega arith))
    by_width false = rw (byte_past v i h, byte_past v (i + 1) (omega arith), word_past v (i + 2) (omega arith))
