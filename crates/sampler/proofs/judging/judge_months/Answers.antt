-- All that is promised follows from the equation of the answer.
use Rattle.std.proofs.Common.{sym, ◌∙◌}
use Rattle.sampler.specs.SampleAnswers.{year_answer, sample_answer}
use Rattle.sampler.proofs.SampleLaws.{keyed_checked, sample_promise}
use Rattle.sampler.proofs.judging.judge_months.Goals as goal

pub returns-in-Err : goal.returns-in-Err
unfolding sample_answer year_answer
returns-in-Err c =
    let a = c.args in
    let h = sample_promise a.list.bytes.now a.site a.months _ (rw (sym c.in-Err.ensures) c.refuse_checked.ensures) in
    record { answer = h.0; values = h.1; by_key = h.2; demand3 = h.3 }

pub returns-in-Ok : goal.returns-in-Ok
unfolding sample_answer year_answer
returns-in-Ok c =
    let a = c.args in
    let h = sample_promise a.list.bytes.now a.site a.months _ (rw (sym c.in-Ok.ensures) (c.judge_pair.ensures ∙ sym (keyed_checked a.list.bytes.now a.site _))) in
    record { answer = h.0; values = h.1; by_key = h.2; demand3 = h.3 }
