-- The sites so far, and those still to come, give what the file holds.
use Rattle.record.specs.File.{contents_to}
use Rattle.record.specs.Unread.{unread, may_come}
use Rattle.record.proofs.UnreadLaws.{SoFar}
use Rattle.record.proofs.records.read_sites.Given as goal

abbrev pub invariant-loop-site : goal.invariant-loop-site
invariant-loop-site l = SoFar (λ s. s) (contents_to l.fn.newest l.list.bytes.now l.file) l.sites.items (unread l.records) (may_come l.records)

abbrev pub decreases-loop-site : goal.decreases-loop-site
decreases-loop-site l = may_come l.records
