-- A site as a record of another kind has it, and what such a record cannot hold.
use Rattle.std.specs.List.{list_all}
use Rattle.std.specs.Prelude.{ℕ, ◌+◌, ◌-◌, ◌≡◌, Bool, false, ◌||◌, [], ltb, eqb, length, take, Ok, Err}
use Rattle.site.specs.Choice.{pick}
use Rattle.site.specs.Kinds.{due, two_byte_species, has_temperature, has_dioxide, reference_temperature, counted_temperature}
use Rattle.site.specs.Refusal.{Checked}
use Rattle.site.specs.declared.Entry.{Entry}
use Rattle.site.specs.declared.Rule.TheVariants.{NotConvertible}
use Rattle.site.specs.declared.Site.{Site}
use Rattle.field.specs.Field.{site_kind}
use Rattle.record.specs.Fields.{encode_fields}
use Rattle.convert.specs.declared.targets.Target.{Target}
use Rattle.convert.specs.Target.{kind_of}

-- into the kind k: every value stays, and the temperature is the one that counts, which at a site of kind 52 is 8 °C
unfoldable pub moved : Target → Site → Site
moved k s = record s { kind = kind_of k; temperature = counted_temperature s }

-- rule 17
abbrev pub convertible : Bool → Checked
convertible b = pick b (Ok tt) (Err NotConvertible)

-- field 07: where a species has one byte, all species are below 256
abbrev pub small : Entry → Bool
small e = ltb e.species 256

unfoldable pub species_convertible : Target → Site → Checked
species_convertible k s = convertible (two_byte_species (kind_of k) || list_all small (take s.stand.count s.stand.entries))

-- field 10: where a record has none, the temperature is 8 °C
unfoldable pub temperature_convertible : Target → Site → Checked
temperature_convertible k s = convertible (has_temperature (kind_of k) || eqb (counted_temperature s) reference_temperature)

-- a record without field 11 can be moved
abbrev pub Older : Site → Type 0
Older s = has_dioxide s.kind ≡ false

-- a record of kind k can hold the site
pub record Converts (k : Target) (s : Site) : Type 0 where
  pub species : species_convertible k s ≡ Ok tt
  pub temperature : temperature_convertible k s ≡ Ok tt

-- where the field t of a site's record starts, counted from the start of the record: behind the outer head and the fields before it
unfoldable pub field_start : ℕ → Site → ℕ
field_start t s = 3 + length (encode_fields (site_kind [] s.kind) (take (t - 1) (due s.kind)) s)
