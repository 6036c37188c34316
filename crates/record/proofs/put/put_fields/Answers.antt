use Rattle.std.proofs.Common.{[], length, arith}
use Rattle.site.specs.Kinds.{due}
use Rattle.field.specs.Field.{site_kind}
use Rattle.record.specs.Fields.{encode_fields}
use Rattle.output.proofs.WritingLaws.{nothing, kept}
use Rattle.record.proofs.EncodeLaws.{fields_first, fields_more, fields_long}
use Rattle.site.proofs.Tags.{tags_none}
use Rattle.record.proofs.put.put_fields.Goals as goal

-- all the fields of the kind
pub loop-tag-init : goal.loop-tag-init
loop-tag-init c = record { room = rw (← fields_first c.args.site) c.requires; all = λ b r w. rw (fields_first c.args.site) w }

pub put_field-end-requires : goal.put_field-end-requires
put_field-end-requires c =
    omega (arith, c.loop-tag.invariant.room, fields_long (site_kind [] c.args.site.kind) c.args.site (length (due c.args.site.kind)) c.loop-tag.tag (omega arith))

pub loop-tag-preserved : goal.loop-tag-preserved
loop-tag-preserved c =
    record {
      room = omega (arith, c.loop-tag.invariant.room, fields_long (site_kind [] c.args.site.kind) c.args.site (length (due c.args.site.kind)) c.loop-tag.tag (omega arith), kept c.put_field-end.ensures, c.put_field-end.ensures.next);
      all = λ b r w. c.loop-tag.invariant.all b r (fields_more (site_kind [] c.args.site.kind) c.args.site (length (due c.args.site.kind)) c.loop-tag.tag (omega arith) c.put_field-end.ensures w);
    }

pub returns : goal.returns
unfolding encode_fields
returns c = c.loop-tag.invariant.all _ _ (rw (tags_none (length (due c.args.site.kind)) c.loop-tag.tag (omega arith)) (nothing _ _))
