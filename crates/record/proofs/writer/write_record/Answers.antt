use Rattle.std.proofs.Common.{◌≡◌, Err, sym, arith, rules}
use Rattle.field.proofs.FieldValueLaws.{unmapped}
use Rattle.record.proofs.EncodeLaws.{sized}
use Rattle.record.proofs.RecordWritten.{write_broken, write_short, write_whole}
use Rattle.record.proofs.writer.write_record.Goals as goal

pub returns-in_err-check_site : goal.returns-in_err-check_site
returns-in_err-check_site c =
    let said : c.from_residual.result ≡ Err (record { rule = c.in_err-check_site.field-0.0; at = 0 }) = search rules in
    rw said (write_broken c.args.list.bytes.now c.args.site (sized _ (search rules) (search (rules, unmapped))) _ _ (sym c.in_err-check_site.ensures.answer))

pub returns-then-buf-record_len : goal.returns-then-buf-record_len
returns-then-buf-record_len c =
    let z = sized c.args.site (search rules) (search (rules, unmapped)) in
    rw c.into.ensures (write_short c.args.list.bytes.now c.args.site z _ (sym c.in_ok-check_site.ensures.answer) (omega (arith, c.record_len.ensures)))

pub returns : goal.returns
returns c =
    let z = sized c.args.site (search rules) (search (rules, unmapped)) in
    write_whole c.args.list.bytes.now c.args.site z _ (sym c.in_ok-check_site.ensures.answer) (omega (arith, c.record_len.ensures)) (c.put_record.ensures.fits (omega (arith, c.record_len.ensures)))
