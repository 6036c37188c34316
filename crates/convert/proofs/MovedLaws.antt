-- A site that a record of another kind can hold is the same site there: it passes the check, has the same terms, loads and mark, and comes back as it was.
use mathlib.Core.Path.{◌≡◌, refl, sym, ap, ◌∙◌}
use mathlib.Core.Bool.{Bool, true, false, ◌&&◌, ◌||◌, false≢true}
use mathlib.Core.List.{List, [], ◌∷◌, ◌++◌}
use Prim.Native.Nat.{ℕ, ◌≤◌}
use native.Mathlib.Omega.{arith}
use borrow.Author.Tests.{ltb-true, eqb-true, lt-ltb}
use lib.Dec.{leb, eqb}
use lib.ListN.{length, take, length-take, length-append, replicate}
use Rattle.std.specs.List.{list_all}
use Rattle.std.proofs.lemmas.List.{length-replicate}
use Rattle.std.specs.Prelude.{Ok}
use Rattle.site.specs.Bounds.{no_entry}
use Rattle.site.specs.Check.{due_rule}
use Rattle.loads.specs.Check.{site_rule}
use Rattle.loads.specs.MaxS.{load_rule}
use Rattle.site.specs.Kinds.{due, two_byte_species, has_temperature, reference_temperature, counted_temperature, has_dioxide, counted_dioxide}
use Rattle.site.specs.OneSite.{OneSite}
use Rattle.site.specs.Ranges.{most_species, listed_range, share_range, most_yield, temperature_range}
use Rattle.site.specs.Choice.{pick}
use Rattle.site.specs.Refusal.{and_then}
use Rattle.site.specs.Values.{count_rule, item_count, value_rule, between, inside, species_ranged, entry_ranged, entries_rule, known_rule, stand_rule}
use Rattle.site.specs.declared.Entry.{Entry}
use Rattle.site.specs.declared.RecordKind.{RecordKind}
use Rattle.site.specs.declared.RecordKind.TheVariants.{Tag52, Tag53, Tag54, Tag55}
use Rattle.site.specs.declared.Rule.TheVariants.{OutOfRange, NotConvertible}
use Rattle.site.specs.declared.Site.{Site}
use Rattle.site.proofs.FieldLaws.{site_passed, due_passed}
use Rattle.site.proofs.Passing.{pass_then, both_passed, inside_both}
use Rattle.site.proofs.BoundsLaw.{site_ranged}
use Rattle.site.proofs.NarrowLaws.{narrow_species, narrow_site}
use Rattle.site.proofs.Tests.{and_l, and_r}
use Rattle.loads.specs.SiteTerms.{terms_of}
use Rattle.loads.proofs.CheckLaws.{passed_fields, passed_load, last_passed}
use Rattle.loads.proofs.WithoutBicarbonateLaws.{none_counted}
use Rattle.loads.proofs.ListedLaws.{narrow_terms}
use Rattle.loads.proofs.OneSiteLaws.{terms_same, one_with}
use Rattle.judgement.specs.Answers.{judged_of}
use Rattle.field.specs.Clean.{clean, Sized}
use Rattle.field.proofs.All.{All, none, ◌▸◌, all_append}
use Rattle.record.proofs.SiteTrips.{fields_passed}
use Rattle.listing.specs.Rows.{row_by, row_of}
use Rattle.convert.specs.declared.targets.Target.{Target}
use Rattle.convert.specs.Target.{kind_of}
use Rattle.convert.specs.declared.targets.Target.TheVariants.{Kind52, Kind53, Kind54}
use Rattle.convert.specs.Moved.{moved, Older, convertible, small, species_convertible, temperature_convertible, Converts}

-- what rule 17 says where it passes
convertible_true : (b : Bool) → convertible b ≡ Ok tt → b ≡ true
convertible_true b e = (pass_then b NotConvertible (Ok tt) e).0

-- no target has the field 11
pub old_target : (k : Target) → has_dioxide (kind_of k) ≡ false
old_target Kind52 = refl
old_target Kind53 = refl
old_target Kind54 = refl

pub old_moved : (k : Target) (s : Site) → Older (moved k s)
unfolding moved
old_moved k s = old_target k

-- ---- the temperature that counts stays, and no carbon dioxide comes

module _ (k : Target) (s : Site) (held : temperature_convertible k s ≡ Ok tt) where
  pub counted_moved : counted_temperature (moved k s) ≡ counted_temperature s
  unfolding counted_temperature temperature_convertible moved
  counted_moved = by_kind k (convertible_true _ held)
    where
      by_kind : (j : Target) → has_temperature (kind_of j) || eqb (counted_temperature s) reference_temperature ≡ true
          → counted_temperature (record s { kind = kind_of j; temperature = counted_temperature s }) ≡ counted_temperature s
      by_kind Kind52 e = sym (eqb-true (counted_temperature s) reference_temperature e)
      by_kind Kind53 e = refl
      by_kind Kind54 e = refl

-- neither has any
pub dioxide_moved : (k : Target) (s : Site) → Older s → counted_dioxide (moved k s) ≡ counted_dioxide s
unfolding moved
dioxide_moved k s o = none_counted [] (record s { kind = kind_of k; temperature = counted_temperature s }) (old_target k) ∙ sym (none_counted [] s o)

module _ (k : Target) (s : Site) (o : Older s) (held : temperature_convertible k s ≡ Ok tt) where
  -- so it is one site with the one it comes from
  pub one_moved : OneSite (moved k s) s
  unfolding moved
  one_moved = one_with s (kind_of k) s.name s.sulphur s.nitrogen (counted_temperature s) s.dioxide (counted_moved k s held) (dioxide_moved k s o)

  module _ (list : List ℕ) where
    -- and has the same terms
    pub moved_terms : terms_of list (moved k s) ≡ terms_of list s
    moved_terms = terms_same list (moved k s) s one_moved

    -- so the same loads and the same mark
    pub moved_judged : judged_of list (moved k s) ≡ judged_of list s
    unfolding judged_of moved
    moved_judged = rw moved_terms

    -- and the same line
    pub moved_row : row_of list (moved k s) ≡ row_of list s
    unfolding row_of row_by moved
    moved_row = rw moved_judged

-- ---- its species stay in the range of the new kind

-- a species in the range of one kind is in that of another which has two bytes for it, or where it is small
species_moved : (j k : RecordKind) (e : Entry) → species_ranged j e.species ≡ true → two_byte_species k || small e ≡ true → species_ranged k e.species ≡ true
species_moved j k e p q = by_table (leb e.species most_species) (two_byte_species k) (small e) refl p q
  where
    by_table : (a w l : Bool) → small e ≡ l → a || two_byte_species j && inside listed_range e.species ≡ true → w || l ≡ true
        → a || w && inside listed_range e.species ≡ true
    by_table true w l is p q = refl
    by_table false true l is p q = and_r (two_byte_species j) (inside listed_range e.species) p
    by_table false false true is p q =
        absurd (omega (arith, ltb-true e.species _ is, (inside_both listed_range e.species (and_r (two_byte_species j) (inside listed_range e.species) p)).0))
    by_table false false false is p q = absurd (false≢true q)

entry_moved : (j k : RecordKind) (e : Entry) → entry_ranged j e ≡ true → two_byte_species k || small e ≡ true → entry_ranged k e ≡ true
unfolding entry_ranged
entry_moved j k e p q =
    let share = inside share_range e.share in
    let yielded = leb e.yield_kg most_yield in
    let first = and_l (species_ranged j e.species && share) yielded p in
    rw (species_moved j k e (and_l (species_ranged j e.species) share first) q, and_r (species_ranged j e.species) share first, and_r (species_ranged j e.species && share) yielded p) refl

entries_moved : (j k : RecordKind) (es : List Entry) → list_all (entry_ranged j) es ≡ true → two_byte_species k || list_all small es ≡ true
    → list_all (entry_ranged k) es ≡ true
entries_moved j k [] p q = refl
entries_moved j k (e ∷ es) p q =
    let here = each (two_byte_species k) q in
    rw (entry_moved j k e (and_l (entry_ranged j e) (list_all (entry_ranged j) es) p) here.0, entries_moved j k es (and_r (entry_ranged j e) (list_all (entry_ranged j) es) p) here.1) refl
  where
    each : (w : Bool) → w || small e && list_all small es ≡ true → (w || small e ≡ true) × (w || list_all small es ≡ true)
    each true q = (refl, refl)
    each false q = (and_l (small e) (list_all small es) q, and_r (small e) (list_all small es) q)

stand_moved : (list : List ℕ) (j k : RecordKind) (es : List Entry) → stand_rule list j es ≡ Ok tt → two_byte_species k || list_all small es ≡ true
    → stand_rule list k es ≡ Ok tt
unfolding stand_rule entries_rule and_then
stand_moved list j k es p q =
    let rules = both_passed (entries_rule j es) (known_rule list es) p in
    let ranged_then = pass_then (list_all (entry_ranged j) es) OutOfRange _ rules.0 in
    rw (entries_moved j k es ranged_then.0 q, ranged_then.1, rules.1)

-- ---- it passes the check

-- something of every field: of 01 to 0F, and of 10
due_all : {P : ℕ → Type 0} → All P (due Tag52) → P 16 → (k : Target) → All P (due (kind_of k))
due_all ps p Kind52 = ps
due_all ps p Kind53 = all_append ps (p ▸ none)
due_all ps p Kind54 = all_append ps (p ▸ none)

module _ (list : List ℕ) (k : Target) (s : Site) (e : site_rule list s ≡ Ok tt) (c : Converts k s) where
  fields : due_rule list s ≡ Ok tt
  fields = passed_fields list s e

  -- the rules of field t
  abbrev Passes : ℕ → Type 0
  Passes t = (count_rule t (moved k s) ≡ Ok tt) × (value_rule list (kind_of k) t (moved k s) ≡ Ok tt)

  wide : two_byte_species (kind_of k) || list_all small (take s.stand.count s.stand.entries) ≡ true
  unfolding species_convertible
  wide = convertible_true _ c.species

  -- a field of 01 to 0F that has the rules of the site it comes from: all but the stand
  kept : (t : ℕ) → 1 ≤ t → t ≤ 15 → (count_rule t s ≡ Ok tt) × (value_rule list s.kind t s ≡ Ok tt)
  kept t some most = site_passed list s fields t some most

  stand_kept : Passes 7
  unfolding moved count_rule item_count value_rule
  stand_kept = let p = kept 7 (omega arith) (omega arith) in (p.0, stand_moved list s.kind (kind_of k) (take s.stand.count s.stand.entries) p.1 wide)

  fifteen : All Passes (due Tag52)
  unfolding moved count_rule item_count value_rule
  fifteen =
      kept 1 (omega arith) (omega arith) ▸ kept 2 (omega arith) (omega arith) ▸ kept 3 (omega arith) (omega arith) ▸ kept 4 (omega arith) (omega arith)
      ▸ kept 5 (omega arith) (omega arith) ▸ kept 6 (omega arith) (omega arith) ▸ stand_kept ▸ kept 8 (omega arith) (omega arith)
      ▸ kept 9 (omega arith) (omega arith) ▸ kept 10 (omega arith) (omega arith) ▸ kept 11 (omega arith) (omega arith) ▸ kept 12 (omega arith) (omega arith)
      ▸ kept 13 (omega arith) (omega arith) ▸ kept 14 (omega arith) (omega arith) ▸ kept 15 (omega arith) (omega arith) ▸ none

  -- the temperature that counts is in its range, whatever the kind
  counted_ranged : between temperature_range (counted_temperature s) ≡ Ok tt
  unfolding counted_temperature between value_rule
  counted_ranged = by_kind s.kind refl
    where
      by_kind : (j : RecordKind) → s.kind ≡ j → between temperature_range (pick (has_temperature j) s.temperature reference_temperature) ≡ Ok tt
      by_kind Tag52 is = refl
      by_kind Tag53 is = (due_passed list s fields 16 (omega arith) (rw is (omega arith))).1
      by_kind Tag54 is = (due_passed list s fields 16 (omega arith) (rw is (omega arith))).1
      by_kind Tag55 is = (due_passed list s fields 16 (omega arith) (rw is (omega arith))).1

  sixteen : Passes 16
  unfolding moved count_rule item_count value_rule
  sixteen = (refl, counted_ranged)

  moved_due : due_rule list (moved k s) ≡ Ok tt
  unfolding due_rule moved
  moved_due = fields_passed list (kind_of k) (due (kind_of k)) (moved k s) (due_all fifteen sixteen k)

  -- rule 21 says of it what it says of the site, whose terms it has
  pub moved_passes : Older s → site_rule list (moved k s) ≡ Ok tt
  moved_passes o =
      let same = moved_terms k s o c.temperature list in
      last_passed list (moved k s) moved_due (ap load_rule same ∙ passed_load list s e)

-- ---- it comes back as it was

padded : {A : Type 0} (n : ℕ) (xs : List A) (d : A) → length (take n (xs ++ replicate n d)) ≡ n
padded n xs d = omega (arith, length-take n (xs ++ replicate n d), length-append xs (replicate n d), length-replicate n d)

-- a site that was read has the temperature that counts in its place
module _ (s : Site) (tidy : clean s ≡ s) where
  counted_here : counted_temperature s ≡ s.temperature
  unfolding clean
  counted_here = ap (λ (x : Site). x.temperature) tidy

  pub clean_sized : Sized s
  unfolding clean
  clean_sized = record {
    name = ap (λ (x : Site). length x.name.bytes) (sym tidy) ∙ padded 8 (take s.name.len s.name.bytes) 0;
    stand = ap (λ (x : Site). length x.stand.entries) (sym tidy) ∙ padded 4 (take s.stand.count s.stand.entries) no_entry;
  }

  dioxide_here : counted_dioxide s ≡ s.dioxide
  unfolding clean
  dioxide_here = ap (λ (x : Site). x.dioxide) tidy

  pub moved_itself : (k : Target) → s.kind ≡ kind_of k → moved k s ≡ s
  unfolding moved
  moved_itself k is = rw (counted_here, ← is)

  module _ (k : Target) where
    pub moved_sized : Sized (moved k s)
    unfolding moved
    moved_sized = record { name = clean_sized.name; stand = clean_sized.stand }

    module _ (held : temperature_convertible k s ≡ Ok tt) where
      pub moved_clean : Older s → clean (moved k s) ≡ moved k s
      unfolding clean moved
      moved_clean o =
          let name : (clean s).name ≡ s.name = ap (λ (x : Site). x.name) tidy in
          let stand : (clean s).stand ≡ s.stand = ap (λ (x : Site). x.stand) tidy in
          rw (name, stand, counted_moved k s held, dioxide_moved k s o, dioxide_here)

      pub moved_back : (j : Target) → s.kind ≡ kind_of j → moved j (moved k s) ≡ s
      unfolding moved
      moved_back j is = rw (counted_moved k s held, counted_here, ← is)

-- the species of a kind that has one byte for them
all_small : (k : RecordKind) → two_byte_species k ≡ false → (es : List Entry) → list_all (entry_ranged k) es ≡ true → list_all small es ≡ true
all_small k narrow [] p = refl
all_small k narrow (x ∷ xs) p =
    let here = narrow_species k narrow x (and_l (entry_ranged k x) (list_all (entry_ranged k) xs) p) in
    rw (lt-ltb x.species 256 (omega arith)) (all_small k narrow xs (and_r (entry_ranged k x) (list_all (entry_ranged k) xs) p))

module _ (list : List ℕ) (s : Site) (e : site_rule list s ≡ Ok tt) where
  up_species : (k : Target) → (two_byte_species s.kind ≡ true → two_byte_species (kind_of k) ≡ true) → species_convertible k s ≡ Ok tt
  unfolding species_convertible
  up_species k up = by_width (two_byte_species (kind_of k)) (two_byte_species s.kind) refl refl
    where
      by_width : (w v : Bool) → two_byte_species (kind_of k) ≡ w → two_byte_species s.kind ≡ v → convertible (two_byte_species (kind_of k) || list_all small (take s.stand.count s.stand.entries)) ≡ Ok tt
      by_width true v wide from = rw wide
      by_width false false narrow from = rw (narrow, all_small s.kind from (take s.stand.count s.stand.entries) (site_ranged list s (passed_fields list s e)))
      by_width false true narrow from = absurd (false≢true (sym narrow ∙ up from))

  up_temperature : (k : Target) → (has_temperature s.kind ≡ true → has_temperature (kind_of k) ≡ true) → temperature_convertible k s ≡ Ok tt
  unfolding temperature_convertible counted_temperature
  up_temperature k up = by_field (has_temperature (kind_of k)) (has_temperature s.kind) refl refl
    where
      by_field : (w v : Bool) → has_temperature (kind_of k) ≡ w → has_temperature s.kind ≡ v
          → convertible (has_temperature (kind_of k) || eqb (pick (has_temperature s.kind) s.temperature reference_temperature) reference_temperature) ≡ Ok tt
      by_field true v has from = rw has
      by_field false false lacks from = rw (lacks, from)
      by_field false true lacks from = absurd (false≢true (sym lacks ∙ up from))

  -- into a kind that has two bytes for a species where the site's kind has them, and field 10 where that has it, every site that passes converts: up, and into the kind it has
  pub up_converts : (k : Target) → (two_byte_species s.kind ≡ true → two_byte_species (kind_of k) ≡ true) → (has_temperature s.kind ≡ true → has_temperature (kind_of k) ≡ true) → Converts k s
  up_converts k species temperature = record { species = up_species k species; temperature = up_temperature k temperature }

  -- and what has been moved can be moved back
  pub back_converts : (k j : Target) → s.kind ≡ kind_of j → temperature_convertible k s ≡ Ok tt → Converts j (moved k s)
  unfolding species_convertible temperature_convertible moved
  back_converts k j is held = record {
    species = up_species j (λ w. rw is at w);
    temperature = rw (counted_moved k s held) (up_temperature j (λ w. rw is at w));
  }

-- a unit that knows no list: in kinds 52 and 53 a moved site passes with any list, and has the terms that the one it comes from has with its own
pub moved_narrow : (list more : List ℕ) (k : Target) (s : Site) → two_byte_species (kind_of k) ≡ false → site_rule list s ≡ Ok tt → Older s → Converts k s
    → (site_rule more (moved k s) ≡ Ok tt) × (terms_of more (moved k s) ≡ terms_of list s)
unfolding moved
moved_narrow list more k s narrow e o c =
    let passes = moved_passes list k s e c o in
    let fields = narrow_site more list (moved k s) narrow ∙ passed_fields list (moved k s) passes in
    let same = narrow_terms more list (moved k s) narrow fields in
    (last_passed more (moved k s) fields (ap load_rule same ∙ passed_load list (moved k s) passes), same ∙ moved_terms k s o c.temperature list)
