use Rattle.site.proofs.ListLaws.{Good}
use Rattle.site.proofs.species_list.SpeciesList.checked.Given as goal

abbrev pub invariant-loop-i : goal.invariant-loop-i
invariant-loop-i l = Good l.fn.bytes l.i l.least
