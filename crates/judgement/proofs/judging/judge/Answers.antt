use Rattle.std.proofs.lemmas.Result.{err_from_is_err_and}
use Rattle.judgement.proofs.JudgementAnswers.{refused_for, judged_for}
use Rattle.judgement.proofs.WithoutBicarbonateLaws.{unlost_refused, unlost_judged, judged_unlost}
use Rattle.judgement.proofs.judging.judge.Goals as goal

pub returns-in_err-checked-clause-below_zero : goal.returns-in_err-checked-clause-below_zero
returns-in_err-checked-clause-below_zero c =
    let p = err_from_is_err_and c.from_residual.result c.from_residual.ensures.1 in
    λ fields. rw (p.1, p.2) (refused_for _ _ fields _ c.in_err-checked.ensures)

pub returns-clause-below_zero : goal.returns-clause-below_zero
returns-clause-below_zero c = λ fields. judged_for _ _ fields _ c.in_ok-checked.ensures.0

pub returns-clause-unlost_mark : goal.returns-clause-unlost_mark
returns-clause-unlost_mark c = λ j e none. judged_unlost _ _ none c.in_ok-checked.ensures.0 c.judge_passed.result j (rw (c.judge_passed.ensures.answer, c.in_ok-checked.ensures.1, c.in_ok-checked.ensures.2)) e

pub returns-in_err-checked-clause-unlost : goal.returns-in_err-checked-clause-unlost
returns-in_err-checked-clause-unlost c =
    let p = err_from_is_err_and c.from_residual.result c.from_residual.ensures.1 in
    λ none. rw (p.1, p.2) (unlost_refused _ _ none _ c.in_err-checked.ensures)

pub returns-clause-unlost : goal.returns-clause-unlost
returns-clause-unlost c =
    λ none. unlost_judged _ _ none c.in_ok-checked.ensures.0 c.judge_passed.result (rw (c.judge_passed.ensures.answer, c.in_ok-checked.ensures.1, c.in_ok-checked.ensures.2))
