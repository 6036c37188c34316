use Rattle.std.proofs.Common.{[], arith, rules}
use Rattle.field.proofs.FieldValueLaws.{unmapped}
use Rattle.field.specs.Field.{site_kind}
use Rattle.output.proofs.WritingLaws.{kept}
use Rattle.record.proofs.EncodeLaws.{encode_length, record_short, record_put, sized}
use Rattle.record.proofs.writer.put_record.Goals as goal

pub overflow_sub-len : goal.overflow_sub-len
overflow_sub-len c = omega (arith, encode_length (site_kind [] c.args.site.kind) c.args.site, c.record_len-len.ensures.answer)

pub put_head-start-requires : goal.put_head-start-requires
put_head-start-requires c =
    let few = record_short c.args.site (sized _ (search rules) (search (rules, unmapped))) in
    (omega (arith, encode_length (site_kind [] c.args.site.kind) c.args.site, c.record_len-len.ensures.answer, c.in-Some.ensures), omega (arith, few, c.record_len-len.ensures.answer))

pub put_fields-requires : goal.put_fields-requires
put_fields-requires c =
    omega (arith, encode_length (site_kind [] c.args.site.kind) c.args.site, c.record_len-len.ensures.answer, c.in-Some.ensures, c.put_head-start.ensures.next, kept c.put_head-start.ensures)

pub returns-in-Some : goal.returns-in-Some
returns-in-Some c =
    record_put c.args.site c.record_len-len.ensures.answer (omega (arith, c.in-Some.ensures)) (rw c.tag.ensures at c.put_head-start.ensures) c.put_fields.ensures
