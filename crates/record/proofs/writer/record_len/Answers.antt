use Rattle.std.proofs.Common.{arith, rules, sym}
use Rattle.field.proofs.FieldValueLaws.{unmapped}
use Rattle.record.proofs.EncodeLaws.{record_length, record_few, sized}
use Rattle.record.proofs.writer.record_len.Goals as goal

pub returns-clause-answer : goal.returns-clause-answer
returns-clause-answer c = rw (c.as_slice.ensures.bytes, c.as_slice-2.ensures.entries, c.entry_width.ensures, c.added_length.ensures) (sym (record_length c.args.site))

pub returns-clause-bounds : goal.returns-clause-bounds
returns-clause-bounds c =
    let is = returns-clause-answer c in
    let few = record_few c.args.site (sized _ (search rules) (search (rules, unmapped))) in
    (omega (arith, is, record_length c.args.site), omega (arith, is, few))
