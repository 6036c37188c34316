-- Where the test passed the float is finite and small, and its bits stand for it; else it is refused.
use Rattle.std.proofs.Common.{sym, ◌∙◌}
use Rattle.std.proofs.lemmas.Float.{T_from_true}
use Rattle.std.specs.Float.Ieee.{of_bits}
use Rattle.sampler.proofs.ConcentrationLaws.{contained, not_contained, exponent_small, taken_bits}
use Rattle.sampler.proofs.floats.concentration_of.Goals as goal

pub returns : goal.returns
unfolding of_bits
returns c =
    let r = c.new.ensures in
    sym (not_contained _ _ r.start r.end r.exhausted (sym c.contains.ensures.value ∙ c.if-contains.false))

pub scaled_bits-requires : goal.scaled_bits-requires
unfolding of_bits
scaled_bits-requires c =
    let r = c.new.ensures in
    rw c.from.ensures (exponent_small _ (T_from_true _ c.well_formed.0.1) (contained _ _ r.start r.end r.exhausted (sym c.contains.ensures.value ∙ c.if-contains.true)))

pub returns-then-contains : goal.returns-then-contains
unfolding of_bits
returns-then-contains c =
    let r = c.new.ensures in
    rw (c.scaled_bits.ensures, c.from.ensures) (sym (taken_bits _ (T_from_true _ c.well_formed.0.1) (contained _ _ r.start r.end r.exhausted (sym c.contains.ensures.value ∙ c.if-contains.true))))
