-- The steps of the loop are laws on plain numbers. Where it ends comes first: a search that stops too soon is refused here, and not at the
-- loop's measure.
use Rattle.std.proofs.Common.{arith}
use Rattle.loads.proofs.SearchLaws.{search_raises, search_lowers, search_fits, search_ends}
use Rattle.loads.proofs.hydrogen.SoilWater.search.Goals as goal

pub returns : goal.returns
returns c = search_ends c.loop-low.invariant c.loop-low-test.false

pub overflow_add-compared : goal.overflow_add-compared
overflow_add-compared c = omega (arith, search_fits c.loop-low.invariant c.args.self.levels)

pub loop-low-preserved-then-allows-2 : goal.loop-low-preserved-then-allows-2
loop-low-preserved-then-allows-2 c = search_raises c.loop-low.invariant c.loop-low-test.true (cc)

pub loop-low-preserved : goal.loop-low-preserved
loop-low-preserved c = search_lowers c.loop-low.invariant c.loop-low-test.true (cc)
