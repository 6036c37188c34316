use Rattle.std.proofs.Common.{◌≡◌, take, drop}
use Rattle.std.specs.List.{list_all}
use Rattle.site.specs.Values.{species_known}
use Rattle.site.proofs.Stand.check_known.Given as goal

abbrev pub invariant-loop-e : goal.invariant-loop-e
invariant-loop-e l =
    list_all (species_known l.fn.list.bytes.now) (take l.fn.self.count l.fn.self.entries) ≡ list_all (species_known l.fn.list.bytes.now) (drop l.e-index l.e-items)
