-- Kinds 52 and 53 keep their meaning: a site of theirs passes or not whatever the list.
use mathlib.Core.Path.{◌≡◌, refl, ap, ◌∙◌, sym}
use mathlib.Core.Bool.{Bool, true, false, ◌&&◌, ◌||◌}
use mathlib.Core.List.{List, [], ◌∷◌}
use Prim.Native.Nat.{ℕ, ◌≤◌}
use borrow.Author.Tests.{leb-true, le-leb}
use lib.Dec.{leb}
use lib.ListN.{get_or, take}
use Rattle.std.specs.Prelude.{Ok, Err}
use Rattle.std.specs.List.{list_all}
use Rattle.site.specs.Kinds.{two_byte_species, due}
use Rattle.site.specs.Ranges.{most_species, share_range, most_yield}
use Rattle.site.specs.Refusal.{Checked, and_then}
use Rattle.site.specs.declared.Entry.{Entry}
use Rattle.site.specs.declared.RecordKind.{RecordKind}
use Rattle.site.specs.declared.Site.{Site}
use Rattle.site.specs.Values.{species_ranged, entry_ranged, inside, entries_rule, species_known, known_rule, stand_rule, value_rules, value_rule}
use Rattle.site.specs.Check.{fields_rule, due_rule}
use Rattle.site.proofs.Tests.{and_l, and_r}

module _ (k : RecordKind) (narrow : two_byte_species k ≡ false) where
  -- its species stand in the table
  pub narrow_species : (e : Entry) → entry_ranged k e ≡ true → e.species ≤ most_species
  unfolding entry_ranged
  narrow_species e p =
      let species = species_ranged k e.species in
      let share = inside share_range e.share in
      one_of (leb e.species most_species) refl (rw narrow at (and_l species share (and_l (species && share) (leb e.yield_kg most_yield) p)))
    where
      one_of : (b : Bool) → leb e.species most_species ≡ b → b || false ≡ true → e.species ≤ most_species
      one_of true is q = leb-true e.species most_species is
      one_of false is q = cc

  -- so that every list has them
  all_known : (list : List ℕ) (es : List Entry) → list_all (entry_ranged k) es ≡ true → list_all (species_known list) es ≡ true
  unfolding species_known
  all_known list [] p = refl
  all_known list (e ∷ es) p =
      rw (le-leb e.species most_species (narrow_species e (and_l (entry_ranged k e) (list_all (entry_ranged k) es) p)))
      (all_known list es (and_r (entry_ranged k e) (list_all (entry_ranged k) es) p))

  narrow_stand : (list : List ℕ) (es : List Entry) → stand_rule list k es ≡ entries_rule k es
  unfolding stand_rule entries_rule known_rule and_then
  narrow_stand list es = by_range (list_all (entry_ranged k) es) refl
    where
      then_passed : (c : Checked) → and_then c (Ok tt) ≡ c
      then_passed (Ok tt) = refl
      then_passed (Err r) = refl

      by_range : (b : Bool) → list_all (entry_ranged k) es ≡ b → and_then (entries_rule k es) (known_rule list es) ≡ entries_rule k es
      by_range true is = rw (all_known list es is) (then_passed (entries_rule k es))
      by_range false is = rw is

  value_narrow : (list more : List ℕ) (t : ℕ) (s : Site) → value_rule list k t s ≡ value_rule more k t s
  unfolding value_rule
  value_narrow list more t s =
      let es = take s.stand.count s.stand.entries in
      let same : stand_rule list k es ≡ stand_rule more k es = narrow_stand list es ∙ sym (narrow_stand more es) in
      let rules : value_rules list k s ≡ value_rules more k s = rw same in
      ap (λ (rs : List Checked). get_or rs t (Ok tt)) rules

  fields_narrow : (list more : List ℕ) (ts : List ℕ) (s : Site) → fields_rule list k ts s ≡ fields_rule more k ts s
  unfolding fields_rule
  fields_narrow list more [] s = refl
  fields_narrow list more (t ∷ ts) s = rw (value_narrow list more t s, fields_narrow list more ts s)

pub narrow_site : (list more : List ℕ) (s : Site) → two_byte_species s.kind ≡ false → due_rule list s ≡ due_rule more s
unfolding due_rule
narrow_site list more s narrow = fields_narrow s.kind narrow list more (due s.kind) s
