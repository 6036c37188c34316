use Prim.Native.Nat.{◌*◌, ◌≤◌}
use mathlib.Core.Path.{◌≡◌}
use lib.ListN.{take}
use Rattle.std.specs.List.{sum_by}
use Rattle.loads.specs.MostTerms.{most_nitrogen_weight, most_base_weight}
use Rattle.loads.specs.Uptake.{nitrogen_in, base_in, weight_of}
use Rattle.loads.proofs.uptake.stand_sums.Given as goal

abbrev pub invariant-loop-entry : goal.invariant-loop-entry
invariant-loop-entry l = record {
  nitrogen : l.nitrogen ≡ sum_by (weight_of (nitrogen_in l.fn.list.bytes.now)) (take l.entry-index l.entries);
  base : l.base ≡ sum_by (weight_of (base_in l.fn.list.bytes.now)) (take l.entry-index l.entries);
  nitrogen_le : l.nitrogen ≤ most_nitrogen_weight * l.entry-index;
  base_le : l.base ≤ most_base_weight * l.entry-index;
}
