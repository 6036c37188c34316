use Prim.Native.Nat.{ℕ, ◌+◌, ◌≤◌}
use mathlib.Core.List.{List, []}
use lib.ListN.{length}
use Rattle.site.specs.Kinds.{due}
use Rattle.field.specs.Field.{site_kind}
use Rattle.output.specs.Writing.{Wrote}
use Rattle.record.specs.Fields.{encode_fields}
use Rattle.site.proofs.Tags.{tags_from}
use Rattle.record.proofs.put.put_fields.Given as goal

-- there is room for the fields still due, and with them all are written
abbrev pub invariant-loop-tag : goal.invariant-loop-tag
invariant-loop-tag l = record {
  room : l.end + length (encode_fields (site_kind [] l.site.kind) (tags_from (length (due l.site.kind)) l.tag) l.site) ≤ length l.buf;
  all : (b : List ℕ) (r : ℕ) → Wrote l.buf l.end (encode_fields (site_kind [] l.site.kind) (tags_from (length (due l.site.kind)) l.tag) l.site) b r → Wrote l.initial.buf l.at (encode_fields (site_kind [] l.site.kind) (due l.site.kind) l.site) b r;
}
