use Rattle.site.proofs.SearchLaws.{Among}
use Rattle.site.proofs.species_list.SpeciesList.place_of.Given as goal

abbrev pub invariant-loop-size : goal.invariant-loop-size
invariant-loop-size l = Among l.fn.self.bytes.now l.fn.number l.low l.size

abbrev pub decreases-loop-size : goal.decreases-loop-size
decreases-loop-size l = l.size
