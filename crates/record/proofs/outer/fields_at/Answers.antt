-- A broken outer field ends the reading; one that passes lies within the file, and so do the fields inside it.
use Rattle.std.proofs.Common.{◌≡◌, get_or, Ok, Err, sym, arith, rules}
use Rattle.std.proofs.lemmas.Result.{err_from_is_err_and}
use Rattle.site.specs.Kinds.{kind_by}
use Rattle.site.specs.Refusal.{and_then}
use Rattle.record.specs.Outer.{known_to}
use Rattle.record.specs.Records.{outer_rule}
use Rattle.record.proofs.OuterLaws.{fields_broken, fields_refused, fields_pass, fields_whole}
use Rattle.record.proofs.outer.fields_at.Goals as goal

pub returns-in_err-kind : goal.returns-in_err-kind
returns-in_err-kind c =
    let r = c.in_err-kind.field-0.0 in
    let bs = c.bytes_from-rest.result.now in
    let broken : and_then (outer_rule (known_to c.args.newest) bs) (kind_by (get_or bs 0 0)) ≡ Err r.rule = search rules in
    let said : c.from_residual.result ≡ Err (record { rule = r.rule; at = c.args.at }) = search rules in
    rw said (fields_broken _ _ _ _ _ c.bytes_from-rest.ensures.bytes _ broken)

pub returns-in_err-site : goal.returns-in_err-site
returns-in_err-site c =
    let p = err_from_is_err_and c.from_residual-in_err-site.result c.from_residual-in_err-site.ensures.1 in
    let bs = c.bytes_from-rest.result.now in
    let k = c.in_ok-kind.kind in
    let read : and_then (outer_rule (known_to c.args.newest) bs) (kind_by (get_or bs 0 0)) ≡ Ok k = search rules in
    rw (p.1, p.2) (fields_refused _ _ _ _ _ c.bytes_from-rest.ensures.bytes k read _ (omega arith) _ (sym c.in_err-site.ensures))

pub invariant_of-checked : goal.invariant_of-checked
invariant_of-checked c =
    let bs = c.bytes_from-rest.result.now in
    let k = c.in_ok-kind.kind in
    let read : and_then (outer_rule (known_to c.args.newest) bs) (kind_by (get_or bs 0 0)) ≡ Ok k = search rules in
    record { passed = fields_pass _ _ _ _ _ c.bytes_from-rest.ensures.bytes k read _ (omega arith) _ (sym c.in_ok-site.ensures) }

pub returns : goal.returns
returns c =
    let bs = c.bytes_from-rest.result.now in
    let k = c.in_ok-kind.kind in
    let read : and_then (outer_rule (known_to c.args.newest) bs) (kind_by (get_or bs 0 0)) ≡ Ok k = search rules in
    (fields_whole _ _ _ _ _ c.bytes_from-rest.ensures.bytes k read _ (omega arith) _ (sym c.in_ok-site.ensures), search rules)
