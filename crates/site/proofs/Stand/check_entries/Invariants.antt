use Rattle.std.proofs.Common.{◌≡◌, ◌≤◌, ◌*◌, drop}
use Rattle.site.specs.Ranges.{share_range}
use Rattle.site.specs.Values.{entries_rule}
use Rattle.site.proofs.StandLaws.{rest_rule}
use Rattle.site.proofs.Stand.check_entries.Given as goal

abbrev pub invariant-loop-e : goal.invariant-loop-e
invariant-loop-e l =
    (l.seen.shares ≤ share_range.most * l.e-index)
    × (entries_rule l.fn.kind l.entries ≡ rest_rule l.fn.kind l.seen (drop l.e-index l.entries))
