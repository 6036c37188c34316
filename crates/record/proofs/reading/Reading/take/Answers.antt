-- A field that was good leaves what is read as it is, and a fault is what is read.
use Rattle.std.proofs.Common.{◌≡◌, ◌+◌, Ok, refl, sym, ◌∙◌, length, arith, rules}
use Rattle.std.proofs.lemmas.Result.{err_from_is_err_and}
use Rattle.site.specs.Kinds.{due}
use Rattle.site.specs.Refusal.{unless}
use Rattle.record.specs.Fields.{head_rule}
use Rattle.record.proofs.WalkLaws.{tag_head, tag_value}
use Rattle.record.proofs.ReadingLaws.{took}
use Rattle.record.proofs.reading.Reading.take.Goals as goal

pub returns-in_err-head_rule-clause-goes_on : goal.returns-in_err-head_rule-clause-goes_on
unfolding unless
returns-in_err-head_rule-clause-goes_on c =
    let r = c.args.self.now in
    let p = err_from_is_err_and c.from_residual.result c.from_residual.ensures.1 in
    rw (p.1, p.2) (sym (tag_head c.args.list.bytes.now r.site.kind (length (due r.site.kind)) r.site r.bytes.now r.at c.args.tag c.requires _ (sym c.head_rule.ensures ∙ c.in_err-head_rule.was)))

pub returns-in_err-take_field-clause-goes_on : goal.returns-in_err-take_field-clause-goes_on
unfolding unless
returns-in_err-take_field-clause-goes_on c =
    let r = c.args.self.now in
    let p = err_from_is_err_and c.from_residual-in_err-take_field.result c.from_residual-in_err-take_field.ensures.1 in
    let ok : head_rule c.args.tag r.bytes.now ≡ Ok tt = search rules in
    rw (p.1, p.2) (sym (tag_value c.args.list.bytes.now r.site.kind (length (due r.site.kind)) r.site r.bytes.now r.at c.args.tag c.requires ok (3 + c.stated_len-end.result) (omega arith) refl _ (sym c.take_field.ensures.answer ∙ c.in_err-take_field.was)))

pub returns-clause-goes_on : goal.returns-clause-goes_on
unfolding unless
returns-clause-goes_on c =
    let r = c.args.self.now in
    let ok : head_rule c.args.tag r.bytes.now ≡ Ok tt = search rules in
    let good : c.take_field.result ≡ Ok tt = search rules in
    took c.args.list.bytes.now c.args.tag r.site c.take_field.new.site r.bytes.now r.at (3 + c.stated_len-end.result) c.requires ok (omega arith) (rw c.take_field.ensures.answer at good) c.take_field.ensures.stored
