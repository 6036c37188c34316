use Rattle.std.proofs.Common.{◌/◌, arith, sym}
use Rattle.site.proofs.SearchLaws.{raised, lowered, found, none}
use Rattle.site.proofs.species_list.SpeciesList.place_of.Goals as goal
use Rattle.site.proofs.species_list.SpeciesList.place_of.Goals.{then-number_at-number, else-number_at-number, else-low-n-via-then-low-n+else-number_at-number-2, else-low-n-via-else-low-n}

pub loop-size-preserved : goal.loop-size-preserved
loop-size-preserved c =
    let l = c.args.self.bytes.now in
    let s = c.loop-size in
    let half = s.size / 2 in
    elim c.if-number_at-number.branch [
      | then-number_at-number w ↦ rw w.low-is (raised l c.args.number c.args.self.good s.invariant half (omega arith) (omega arith))
      | else-number_at-number w ↦ rw w.low-is (lowered l c.args.number c.args.self.good s.invariant half (omega arith) (omega arith) (omega arith))
    ]

pub returns-then-number_at-number-2-clause-place : goal.returns-then-number_at-number-2-clause-place
returns-then-number_at-number-2-clause-place c = sym (found c.args.self.bytes.now c.args.number c.loop-size.invariant (omega arith) (omega arith))

pub returns-else-low-n-clause-place : goal.returns-else-low-n-clause-place
returns-else-low-n-clause-place c =
    sym (none c.args.self.bytes.now c.args.number c.loop-size.invariant (omega arith)
    (λ h e. elim c.else-low-n.branch [ else-low-n-via-then-low-n+else-number_at-number-2 w ↦ absurd (omega arith) | else-low-n-via-else-low-n w ↦ absurd (omega arith) ]))
