-- A file's records moved to one kind: 17 at the first field, from the left, that a record of this kind cannot hold, after the file's own checks.
use Rattle.std.specs.Prelude.{ℕ, ◌+◌, ◌*◌, ◌<◌, ◌≡◌, List, [], ◌∷◌, ◌++◌, length, get_or, flat_map, Result, Ok, Err}
use Rattle.site.specs.Ranges.{most_records}
use Rattle.site.specs.Refusal.{unless}
use Rattle.site.specs.declared.RecordKind.TheVariants.{Tag54}
use Rattle.site.specs.declared.Refusal.{Refusal}
use Rattle.site.specs.declared.Site.{Site}
use Rattle.field.specs.Field.{blank_site}
use Rattle.record.specs.File.{Contents, first, contents_to}
use Rattle.record.specs.Writer.{encode, most_site_record}
use Rattle.convert.specs.declared.targets.Target.{Target}
use Rattle.convert.specs.Moved.{moved, species_convertible, temperature_convertible, Converts, field_start}

-- x, unless a record of kind k cannot hold a field of the site s, whose record starts at `at`: field 07, then field 10
unfoldable pub if_convertible : {A : Type 0} → Target → Site → ℕ → Result A Refusal → Result A Refusal
if_convertible k s at x = unless (species_convertible k s) (at + field_start 7 s) (unless (temperature_convertible k s) (at + field_start 16 s) x)

-- the sites of records that stand one after another from offset `at` on, each moved to kind k
unfoldable pub all_moved : Target → ℕ → List Site → Contents Site
all_moved k at [] = Ok []
all_moved k at (s ∷ ss) = if_convertible k s at (first (moved k s) (all_moved k (at + length (encode s)) ss))

-- what a file to convert holds: its records are of kinds 52 to 54, and 3 is given for a record of kind 55 as for one of no kind
abbrev pub movable : (list f : List ℕ) → Contents Site
movable list f = contents_to Tag54 list f

-- the sites of the converted file, from what the checks of the file say
unfoldable pub converted : Target → Contents Site → Contents Site
converted k (Ok ss) = all_moved k 0 ss
converted k (Err r) = Err r

-- the record of a site in the kind it is moved to
abbrev pub moved_record : Target → Site → List ℕ
moved_record k s = encode (moved k s)

-- the file's bytes: the records of its sites, one after another
abbrev pub file_of : List Site → List ℕ
file_of ss = flat_map encode ss

-- the most bytes of a converted file: 500 records of the greatest length; 52000
abbrev pub most_converted : ℕ
most_converted = most_records * most_site_record Tag54

-- ---- rule 17 as conditions: the first field, from the left, that a record of kind k cannot hold

-- in the record of site s, which starts at an offset
pub data Inconvertible (k : Target) (start : ℕ) (s : Site) (r : Refusal) : Type 0 where
  stand : species_convertible k s ≡ Err r.rule → r.at ≡ start + field_start 7 s → Inconvertible k start s r
  temperature : species_convertible k s ≡ Ok tt → temperature_convertible k s ≡ Err r.rule → r.at ≡ start + field_start 16 s → Inconvertible k start s r

-- the records before it convert
pub record FirstInconvertible (k : Target) (ss : List Site) (r : Refusal) : Type 0 where
  pub before : List Site
  pub site : Site
  pub after : List Site
  pub order : ss ≡ before ++ site ∷ after
  pub converts : (i : ℕ) → i < length before → Converts k (get_or before i blank_site)
  pub here : Inconvertible k (length (file_of before)) site r
