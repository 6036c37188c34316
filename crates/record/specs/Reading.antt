-- The fields of a record, read one after another: what those that are still to be read give.
use Rattle.std.specs.Prelude.{ℕ, List, Result}
use Rattle.site.specs.declared.Site.{Site}
use Rattle.site.specs.declared.Refusal.{Refusal}
use Rattle.site.specs.Kinds.{due_from}
use Rattle.field.specs.Field.{site_kind}
use Rattle.record.specs.declared.reading.Reading.{Reading}
use Rattle.record.specs.Fields.{walk_fields}

-- where the fields of the site's kind from tag t on are still to be read
abbrev pub still_read : (list : List ℕ) → ℕ → Reading → Result Site Refusal
still_read list t r = walk_fields (site_kind list r.site.kind) (due_from r.site.kind t) r.site r.bytes.now r.at
