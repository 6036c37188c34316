-- The rows so far, and those of the sites still to come, give what the file holds.
use Rattle.std.proofs.Common.{◌≡◌}
use Rattle.record.specs.File.{contents}
use Rattle.record.specs.Unread.{list_in, unread, may_come}
use Rattle.record.proofs.UnreadLaws.{SoFar}
use Rattle.listing.specs.Rows.{row_of}
use Rattle.listing.proofs.walking.walk_file.Given as goal

abbrev pub invariant-loop-passed : goal.invariant-loop-passed
invariant-loop-passed l = record {
  same : list_in l.records ≡ l.list.bytes.now;
  so : SoFar (row_of l.list.bytes.now) (contents l.list.bytes.now l.file) l.rows.items (unread l.records) (may_come l.records);
}

abbrev pub decreases-loop-passed : goal.decreases-loop-passed
decreases-loop-passed l = may_come l.records
