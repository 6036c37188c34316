-- Site A1 of document 01 passes the check, and so it does as a reserve, in every kind.
use Rattle.std.specs.Prelude.{ℕ, ◌≡◌, refl, List, Ok}
use Rattle.site.specs.Refusal.{and_then}
use Rattle.site.specs.Values.{item_count, count_rule, name_byte, between, entry_ranged, rising_from, shares_of, composition_rule, entries_rule, species_known, known_rule, stand_rule, value_rule}
use Rattle.site.specs.Check.{fields_rule, due_rule}
use Rattle.site.specs.ExampleSite.{a1, a1_reserve}
use Rattle.site.specs.declared.RecordKind.{RecordKind}
use Rattle.site.specs.declared.RecordKind.TheVariants.{Tag52, Tag53, Tag54, Tag55}

-- whatever the list
a1_passes : (list : List ℕ) → due_rule list a1 ≡ Ok tt
unfolding due_rule fields_rule and_then item_count count_rule name_byte between entry_ranged rising_from shares_of composition_rule entries_rule species_known known_rule stand_rule value_rule
a1_passes list = refl

reserve_passes : (list : List ℕ) (k : RecordKind) → due_rule list (record a1_reserve { kind = k }) ≡ Ok tt
unfolding due_rule fields_rule and_then item_count count_rule name_byte between entry_ranged rising_from shares_of composition_rule entries_rule species_known known_rule stand_rule value_rule
reserve_passes list Tag52 = refl
reserve_passes list Tag53 = refl
reserve_passes list Tag54 = refl
reserve_passes list Tag55 = refl
