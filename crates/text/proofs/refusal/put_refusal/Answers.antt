-- The line's five parts are put one after another, and their lengths add up to what was asked of the buffer.
use Rattle.std.proofs.Common.{arith}
use Rattle.text.specs.RefusalLine.{refused_line, refused_word, at_word}
use Rattle.output.proofs.WritingLaws.{then, stored}
use Rattle.text.proofs.LineLaws.{length-refusal, refusal_is}
use Rattle.text.proofs.TextAnswers.{text_refused, text_printed}
use Rattle.text.proofs.refusal.put_refusal.Goals as goal

pub returns-then-out-width : goal.returns-then-out-width
returns-then-out-width c =
    let n = c.from-number.result in
    let at = c.args.refused.at in
    let l = length-refusal n at in
    let a = text_refused (refused_line n at) c.args.out.now (omega arith) (omega arith) in
    rw (← refusal_is c.args.refused.rule at c.from-number.ensures, c.into.ensures)
    (record { answer = a.answer; buffer = a.buffer; numbers = a.numbers; enough = a.enough })

pub returns : goal.returns
unfolding refused_line refused_word at_word
returns c =
    let n = c.from-number.result in
    let at = c.args.refused.at in
    let l = length-refusal n at in
    let first = c.put_bytes-a.ensures.fits (omega arith) in
    let number = c.put_decimal-b.ensures.fits (omega (arith, first.next)) in
    let word = c.put_bytes-c.ensures.fits (omega (arith, first.next, number.next)) in
    let offset = c.put_decimal-d.ensures.fits (omega (arith, first.next, number.next, word.next)) in
    let w = then (then (then (then first number) word) offset) (stored c.put_decimal-d.new.out c.put_decimal-d.result 10) in
    let a = text_printed (refused_line n at) w (omega arith) (omega arith) in
    rw (← refusal_is c.args.refused.rule at c.from-number.ensures)
    (record { answer = a.answer; buffer = a.buffer; numbers = a.numbers; enough = a.enough })
