use Rattle.std.proofs.Common.{◌≡◌}
use Rattle.record.specs.Reading.{still_read}
use Rattle.record.proofs.reading.Reading.take_all.Given as goal

abbrev pub invariant-loop-tag : goal.invariant-loop-tag
invariant-loop-tag l = record {
  kind : l.self.site.kind ≡ l.initial.self.site.kind;
  goes_on : still_read l.list.bytes.now l.tag l.self ≡ still_read l.list.bytes.now 1 l.fn.self;
}
