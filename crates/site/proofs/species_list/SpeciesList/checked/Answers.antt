use Rattle.std.proofs.Common.{◌≡◌, ◌*◌, ◌/◌, arith, length}
use Rattle.site.proofs.ListLaws.{good_more, bad_at, low_bad, high_bad, good_list, passing_list, refused_at}
use Rattle.site.proofs.species_list.SpeciesList.checked.Goals as goal
use Rattle.site.proofs.species_list.SpeciesList.checked.Goals.{then-number-least-via-then-number-least, then-number-least-via-else-number-least+then-number-gt1023}

pub returns-then-number-least : goal.returns-then-number-least
returns-then-number-least c =
    let l = c.args.bytes.now in
    let g = c.loop-i.invariant in
    let h = refused_at l (10 * c.loop-i.i)
    (bad_at l g (omega arith) (omega arith)
    (λ k.
    elim c.then-number-least.branch [
      | then-number-least-via-then-number-least w ↦ low_bad l g (omega arith)
      | then-number-least-via-else-number-least+then-number-gt1023 w ↦ high_bad l g (omega arith)
    ])) in
    record { answer = h.answer; number = h.number }

pub loop-i-preserved : goal.loop-i-preserved
loop-i-preserved c = good_more c.args.bytes.now c.loop-i.i c.loop-i.least c.word_at-number.result c.loop-i.invariant c.word_at-number.ensures (omega arith) (omega arith)

pub returns-then-at-bytes : goal.returns-then-at-bytes
returns-then-at-bytes c =
    let l = c.args.bytes.now in
    let is : c.loop-i.i ≡ length l / 10 = omega arith in
    let h = refused_at l (10 * (length l / 10)) (rw is at (bad_at l c.loop-i.invariant (omega arith) (omega arith) (λ k. absurd (omega arith)))) in
    record { answer = h.answer; number = h.number }

pub returns-clause-number : goal.returns-clause-number
returns-clause-number c = passing_list c.args.bytes.now (good_list c.args.bytes.now c.loop-i.invariant (omega arith) (omega arith))
