-- Each call writes the next part of the line, for which the line's length leaves room.
use Rattle.std.proofs.Common.{◌≡◌, arith}
use Rattle.output.specs.Writing.{Wrote}
use Rattle.text.specs.Line.{name_text, body, line}
use Rattle.output.proofs.WritingLaws.{then, stored}
use Rattle.text.proofs.LineLaws.{length-line}
use Rattle.text.proofs.line.put_line.Goals as goal

pub returns : goal.returns
unfolding line body name_text
returns c =
    let row = c.args.row in
    let is : c.as_slice.result.now ≡ name_text row = c.as_slice.ensures.bytes in
    let name : Wrote c.args.out.now c.args.at (name_text row) c.put_bytes-a.new.out c.put_bytes-a.result =
    rw is at (c.put_bytes-a.ensures.fits (rw is (omega (arith, length-line row)))) in
    let numbers = rw c.numbers.ensures at c.put_numbers-b.ensures in
    then (then (then name numbers) c.put_mark-d.ensures) (stored c.put_mark-d.new.out c.put_mark-d.result 10)
