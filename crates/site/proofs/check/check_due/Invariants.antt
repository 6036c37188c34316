use Rattle.std.proofs.Common.{◌≡◌}
use Rattle.site.specs.Check.{due_rule, rest_rule}
use Rattle.site.proofs.check.check_due.Given as goal

abbrev pub invariant-loop-tag : goal.invariant-loop-tag
invariant-loop-tag l = due_rule l.fn.list.bytes.now l.site ≡ rest_rule l.fn.list.bytes.now l.tag l.site
