use Rattle.std.proofs.Common.{rules}
use Rattle.output.proofs.EachLaws.{next_written}
use Rattle.text.specs.Line.{column}
use Rattle.text.proofs.columns.put_numbers.Goals as goal

pub loop-n-preserved : goal.loop-n-preserved
loop-n-preserved c = next_written column c.args.ns c.loop-n.n-index 0 (search rules) c.loop-n.invariant c.put_number-at.ensures
