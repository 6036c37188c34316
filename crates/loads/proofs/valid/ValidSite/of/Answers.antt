use Rattle.site.proofs.BoundsLaw.{bounds}
use Rattle.loads.proofs.UptakeLaws.{entries_bounds}
use Rattle.loads.proofs.valid.ValidSite.of.Goals as goal

pub stand_sums-sums-requires : goal.stand_sums-sums-requires
stand_sums-sums-requires c = rw c.as_slice.ensures.entries (entries_bounds _ _ (bounds _ c.args.fields.site c.args.fields.passed).stand)
