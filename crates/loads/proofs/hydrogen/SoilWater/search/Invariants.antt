use Prim.Native.Nat.{◌-◌}
use Rattle.loads.proofs.SearchLaws.{SearchState}
use Rattle.loads.proofs.hydrogen.SoilWater.search.Given as goal

abbrev pub invariant-loop-low : goal.invariant-loop-low
invariant-loop-low l = let w = l.self in SearchState w.percolation w.gibbsite w.limit w.ceiling l.low l.high l.compared

abbrev pub decreases-loop-low : goal.decreases-loop-low
decreases-loop-low l = l.high - l.low
