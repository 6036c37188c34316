use Rattle.std.proofs.Common.{◌∙◌, sym, arith, rules}
use Rattle.site.proofs.FieldLaws.{fields_passed, fields_done}
use Rattle.site.proofs.NumberLaws.{numbered, known_site}
use Rattle.site.proofs.check.check_due.Goals as goal

pub loop-tag-preserved : goal.loop-tag-preserved
loop-tag-preserved c = c.loop-tag.invariant ∙ fields_passed _ _ _ c.loop-tag.tag c.args.site (omega arith) (search rules)

pub returns-clause-number : goal.returns-clause-number
returns-clause-number c =
    numbered _ _ (sym (c.loop-tag.invariant ∙ fields_done _ _ _ c.loop-tag.tag c.args.site (omega arith))) (known_site c.args.list.bytes.now c.args.site)
