use Rattle.output.proofs.EachLaws.{next_written}
use Rattle.text.specs.Line.{line}
use Rattle.text.proofs.listing.put_lines.Goals as goal

pub loop-row-preserved : goal.loop-row-preserved
loop-row-preserved c = next_written line c.args.rows.now c.loop-row.row-index _ c.loop-row-test.true c.loop-row.invariant c.put_line-at.ensures
