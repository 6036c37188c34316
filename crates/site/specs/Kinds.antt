-- The kinds of record: the outer tag of each, the fields it has, and what counts at a site whose kind lacks one.
use Rattle.std.specs.List.{range_with_len}
use Rattle.std.specs.Prelude.{ℕ, suc, ◌-◌, Bool, true, false, List, [], ◌∷◌, length, eqb, Result, Ok, Err}
use Rattle.site.specs.Choice.{pick}
use Rattle.site.specs.declared.RecordKind.{RecordKind}
use Rattle.site.specs.declared.RecordKind.TheVariants.{Tag52, Tag53, Tag54, Tag55}
use Rattle.site.specs.declared.Site.{Site}
use Rattle.site.specs.declared.Rule.{Rule}
use Rattle.site.specs.declared.Rule.TheVariants.{OuterTag}

-- the outer tag: 52, 53, 54 and 55, hexadecimal
abbrev pub kind_tag : RecordKind → ℕ
kind_tag Tag52 = 82
kind_tag Tag53 = 83
kind_tag Tag54 = 84
kind_tag Tag55 = 85

-- the kind of an outer tag, and rule 3 for another tag
abbrev pub kind_by : ℕ → Result RecordKind Rule
kind_by t = pick (eqb t 82) (Ok Tag52) (pick (eqb t 83) (Ok Tag53) (pick (eqb t 84) (Ok Tag54) (pick (eqb t 85) (Ok Tag55) (Err OuterTag))))

-- the tags of the fields, in their order: 01 to 0F, from kind 53 on then 10, in kind 55 then 11
abbrev pub due : RecordKind → List ℕ
due Tag52 = 1 ∷ 2 ∷ 3 ∷ 4 ∷ 5 ∷ 6 ∷ 7 ∷ 8 ∷ 9 ∷ 10 ∷ 11 ∷ 12 ∷ 13 ∷ 14 ∷ 15 ∷ []
due Tag53 = 1 ∷ 2 ∷ 3 ∷ 4 ∷ 5 ∷ 6 ∷ 7 ∷ 8 ∷ 9 ∷ 10 ∷ 11 ∷ 12 ∷ 13 ∷ 14 ∷ 15 ∷ 16 ∷ []
due Tag54 = 1 ∷ 2 ∷ 3 ∷ 4 ∷ 5 ∷ 6 ∷ 7 ∷ 8 ∷ 9 ∷ 10 ∷ 11 ∷ 12 ∷ 13 ∷ 14 ∷ 15 ∷ 16 ∷ []
due Tag55 = 1 ∷ 2 ∷ 3 ∷ 4 ∷ 5 ∷ 6 ∷ 7 ∷ 8 ∷ 9 ∷ 10 ∷ 11 ∷ 12 ∷ 13 ∷ 14 ∷ 15 ∷ 16 ∷ 17 ∷ []

-- those from tag t on
abbrev pub due_from : RecordKind → (t : ℕ) → List ℕ
due_from k t = range_with_len t (suc (length (due k)) - t)

-- whether a species number has two bytes
abbrev pub two_byte_species : RecordKind → Bool
two_byte_species Tag52 = false
two_byte_species Tag53 = false
two_byte_species Tag54 = true
two_byte_species Tag55 = true

-- the bytes of an entry of the stand: species, share, and two of yield
abbrev pub entry_width : RecordKind → ℕ
entry_width k = pick (two_byte_species k) 5 4

-- the temperature byte of 8 °C, which stands for the field where a kind has none
abbrev pub reference_temperature : ℕ
reference_temperature = 13

-- whether a record has the field 10
abbrev pub has_temperature : RecordKind → Bool
has_temperature Tag52 = false
has_temperature Tag53 = true
has_temperature Tag54 = true
has_temperature Tag55 = true

-- the temperature byte that counts at a site: for kind 52 it is no part of the site
unfoldable pub counted_temperature : Site → ℕ
counted_temperature s = pick (has_temperature s.kind) s.temperature reference_temperature

-- whether a record has the field 11
abbrev pub has_dioxide : RecordKind → Bool
has_dioxide Tag52 = false
has_dioxide Tag53 = false
has_dioxide Tag54 = false
has_dioxide Tag55 = true

-- the soil carbon dioxide P that counts at a site: 0 where its kind has none
unfoldable pub counted_dioxide : Site → ℕ
counted_dioxide s = pick (has_dioxide s.kind) s.dioxide 0
