use Rattle.std.proofs.Common.{Ok, sym, ap, ◌∙◌}
use Rattle.exports.specs.Samples.{sampled}
use Rattle.exports.proofs.SampleCallLaws.{sampled_elements}
use Rattle.exports.proofs.sample_calls.sampled_of.Goals as goal

pub returns : goal.returns
unfolding sampled
returns c =
    let given = sym c.sample_in.ensures ∙ c.in_ok-pair.was in
    rw (given, c.from.ensures, c.from-2.ensures) (ap Ok (sampled_elements c.in_ok-pair.field-0 c.judged_numbers.ensures))
