-- The header and the lines are put one after another, and their lengths add up to what was asked of the buffer.
use Rattle.std.proofs.Common.{◌+◌, ◌*◌, length, arith}
use Rattle.output.specs.Writing.{Wrote}
use Rattle.text.specs.TextLengths.{header_length, most_line}
use Rattle.text.specs.Listing.{head_text, header, listing}
use Rattle.output.proofs.WritingLaws.{then}
use Rattle.text.proofs.MarkLaws.{marked}
use Rattle.text.proofs.LineLaws.{length-listing}
use Rattle.text.proofs.TextAnswers.{text_refused, text_printed, room_more}
use Rattle.text.proofs.listing.put_listing.Goals as goal

pub returns-then-out-listing_len : goal.returns-then-out-listing_len
returns-then-out-listing_len c =
    let rows = c.args.rows.now in
    let a = text_refused {most = header_length + most_line * length rows} (listing rows) c.args.out.now (omega arith) (omega arith) in
    rw c.into.ensures
    (record { answer = a.answer; buffer = a.buffer; numbers = a.numbers; enough = λ few. room_more (omega arith) a.enough; marks = marked rows _ _ _ a })

pub put_lines-requires : goal.put_lines-requires
put_lines-requires c = omega (arith, length-listing c.args.rows.now, (c.put_bytes-at.ensures.fits (omega (arith, length-listing c.args.rows.now))).next)

pub returns : goal.returns
unfolding listing header head_text
returns c =
    let rows = c.args.rows.now in
    let d = c.args.out.now in
    let w : Wrote d 0 (listing rows) c.put_lines.new.out c.put_lines.result =
    then (c.put_bytes-at.ensures.fits (omega (arith, length-listing rows))) c.put_lines.ensures in
    let a = text_printed {most = header_length + most_line * length rows} (listing rows) w (omega arith) (omega arith) in
    record { answer = a.answer; buffer = a.buffer; numbers = a.numbers; enough = λ few. room_more (omega arith) a.enough; marks = marked rows d _ _ a }
