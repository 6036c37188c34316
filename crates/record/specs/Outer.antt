-- A site record of a file, and a file of at most one record.
use Rattle.std.specs.Prelude.{ℕ, ◌-◌, Bool, true, false, ◌&&◌, List, leb, drop, length, Result, Ok, Err}
use Rattle.site.specs.declared.RecordKind.{RecordKind}
use Rattle.site.specs.declared.RecordKind.TheVariants.{Tag52, Tag55}
use Rattle.site.specs.declared.Rule.{Rule}
use Rattle.site.specs.Kinds.{kind_by, kind_tag}
use Rattle.site.specs.declared.Site.{Site}
use Rattle.site.specs.declared.Refusal.{Refusal}
use Rattle.site.specs.Refusal.{unless}
use Rattle.loads.specs.SiteTerms.{terms_of}
use Rattle.loads.specs.MaxS.{load_rule}
use Rattle.record.specs.declared.found.Found.{Found}
use Rattle.field.specs.Kind.{Kind}
use Rattle.field.specs.Field.{site_kind}
use Rattle.record.specs.Records.{record_in, single}

abbrev of_kind : Result RecordKind Rule → Bool
of_kind (Ok k) = true
of_kind (Err r) = false

-- an outer tag that a reader knows: that of a kind, up to the newest that it takes
unfoldable pub known_to : RecordKind → ℕ → Bool
known_to newest t = of_kind (kind_by t) && leb t (kind_tag newest)

-- the kind of the record, by its outer tag; for a tag of none it is not asked
abbrev kind_or_52 : Result RecordKind Rule → RecordKind
kind_or_52 (Ok k) = k
kind_or_52 (Err r) = Tag52

unfoldable pub site_kinds : List ℕ → ℕ → Kind Site
site_kinds list t = site_kind list (kind_or_52 (kind_by t))

-- the fields of the record of the file f that starts at offset `at`, all of them accepted, and where the next one starts; `list` is the list that is lent
unfoldable pub fields_at : RecordKind → (list f : List ℕ) → ℕ → Result (Site × ℕ) Refusal
fields_at newest list f at = record_in (known_to newest) (site_kinds list) (drop at f) at

-- the bytes of field 11, the last of a record of the kind that has it
abbrev pub dioxide_length : ℕ
dioxide_length = 5

-- rule 21, after all other checks of the record, at the first byte of field 11
unfoldable pub with_load : List ℕ → Result (Site × ℕ) Refusal → Result (Site × ℕ) Refusal
with_load list (Ok x) = unless (load_rule (terms_of list x.0)) (x.1 - dioxide_length) (Ok x)
with_load list (Err r) = Err r

-- the record of the file f that starts at offset `at`, of a kind up to the newest, and where the next one starts
unfoldable pub site_to : RecordKind → (list f : List ℕ) → ℕ → Result (Site × ℕ) Refusal
site_to newest list f at = with_load list (fields_at newest list f at)

-- of any kind
abbrev pub site_at : (list f : List ℕ) → ℕ → Result (Site × ℕ) Refusal
site_at list f at = site_to Tag55 list f at

-- the same as the call gives it
unfoldable pub found_of : Result (Site × ℕ) Refusal → Result Found Refusal
found_of (Ok x) = Ok (record { site = x.0; next = x.1 })
found_of (Err r) = Err r

abbrev pub record_at : (list f : List ℕ) → ℕ → Result Found Refusal
record_at list f at = found_of (site_at list f at)

-- a file of at most one record
unfoldable pub read_record : (list f : List ℕ) → Result Site Refusal
read_record list f = single (site_at list f) (length f)
