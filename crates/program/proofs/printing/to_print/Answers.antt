-- What is printed is what the buffer has for output, and that is the file's report.
use Rattle.std.proofs.Common.{arith, rules, []}
use Rattle.std.proofs.lemmas.Grind.{common_steps}
use Rattle.listing.proofs.ReportLaws.{report_says}
use Rattle.program.specs.Printing.{output_of}
use Rattle.program.proofs.PrintingLaws.{output_is}
use Rattle.program.proofs.printing.to_print.Goals as goal

pub returns-in-Ended-clause-whole : goal.returns-in-Ended-clause-whole
unfolding output_of
returns-in-Ended-clause-whole c = λ f x.
    let same = output_is f _ _ (search rules) x in
    grind (arith, common_steps, same)

pub returns-in-Ended-clause-demand3 : goal.returns-in-Ended-clause-demand3
returns-in-Ended-clause-demand3 c = λ f x. rw (returns-in-Ended-clause-whole c f x) (report_says [] f)
