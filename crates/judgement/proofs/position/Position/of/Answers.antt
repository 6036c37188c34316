use Rattle.loads.proofs.DenitrifiedLaws.{undenitrified-pos, undenitrified_most}
use Rattle.judgement.proofs.AtSites.{max_s_le}
use Rattle.judgement.proofs.position.Position.of.Goals as goal

pub invariant_of-result-clause-load_fits : goal.invariant_of-result-clause-load_fits
invariant_of-result-clause-load_fits c =
    let p = c.args.passed in
    rw p.worked_out (max_s_le p.list.bytes.now p.site p.passed)

pub invariant_of-result-clause-some_left : goal.invariant_of-result-clause-some_left
invariant_of-result-clause-some_left c = rw c.undenitrified_at.ensures (undenitrified-pos c.args.passed.site)

pub invariant_of-result-clause-no_more_left : goal.invariant_of-result-clause-no_more_left
invariant_of-result-clause-no_more_left c = rw c.undenitrified_at.ensures (undenitrified_most c.args.passed.site)
