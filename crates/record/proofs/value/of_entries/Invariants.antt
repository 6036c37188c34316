use mathlib.Core.Path.{◌≡◌}
use lib.ListN.{take}
use Rattle.field.specs.Field.{entries_bytes}
use Rattle.record.proofs.value.of_entries.Given as goal

abbrev pub invariant-loop-e : goal.invariant-loop-e
invariant-loop-e l = l.held.items ≡ entries_bytes l.kind (take l.e-index l.entries)
