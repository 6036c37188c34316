-- The bytes of a site's record, and what a write of them can break.
use Rattle.std.specs.Prelude.{ℕ, ◌+◌, ◌*◌, ◌≡◌, List, [], length, Ok}
use Rattle.site.specs.declared.RecordKind.{RecordKind}
use Rattle.site.specs.declared.RecordKind.TheVariants.{Tag52, Tag53, Tag54, Tag55}
use Rattle.site.specs.declared.Site.{Site}
use Rattle.site.specs.Kinds.{entry_width}
use Rattle.site.specs.Refusal.{Checked}
use Rattle.loads.specs.Check.{site_rule}
use Rattle.output.specs.Output.{output_rule}
use Rattle.record.specs.Fields.{encode_as}
use Rattle.field.specs.Field.{site_kind}

-- the record: an outer field with the tag of the site's kind; no list has a part in it
abbrev pub encode : Site → List ℕ
encode s = encode_as (site_kind [] s.kind) s

-- the bytes of the fields that a kind has after 0F
abbrev pub added_length : RecordKind → ℕ
added_length Tag52 = 0
added_length Tag53 = 4
added_length Tag54 = 4
added_length Tag55 = 9

-- the greatest length of a record of a kind, with a name of 8 bytes and 4 entries: 96 of kind 52, 100 of 53, 104 of 54 and 109 of 55
abbrev pub most_site_record : RecordKind → ℕ
most_site_record k = 80 + 4 * entry_width k + added_length k

-- all that a write can break, 11 last
abbrev pub write_rule : List ℕ → Site → ℕ → Checked
write_rule list s room = output_rule (site_rule list s) (length (encode s)) room

-- s passes the check with the list, so that the writer takes it, and its record is the bytes bs
pub record WritesAgain (list : List ℕ) (s : Site) (bs : List ℕ) : Type 0 where
  pub passes : site_rule list s ≡ Ok tt
  pub bytes : encode s ≡ bs
