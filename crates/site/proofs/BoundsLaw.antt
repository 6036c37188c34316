-- A site that passes the check is within the bounds that the calculation leans on.
use mathlib.Core.Path.{◌≡◌, refl}
use mathlib.Core.Logic.{◌⊎◌, inl, inr, ⊎_elim}
use mathlib.Core.Bool.{true, ◌&&◌}
use mathlib.Core.List.{List, [], ◌∷◌}
use Prim.Native.Nat.{ℕ, ◌≤◌, ◌<◌}
use native.Mathlib.Omega.{arith}
use lib.Dec.{leb, eqb}
use lib.ListN.{length, get_or, take, length-take, get_or-eq_default}
use lib.Seq.{get_or-take}
use borrow.Author.Tests.{leb-true, eqb-true}
use Rattle.site.specs.declared.Site.{Site}
use Rattle.site.specs.declared.Entry.{Entry}
use Rattle.site.specs.declared.Rule.TheVariants.{OutOfRange, NotRising, SharesNotWhole}
use Rattle.std.specs.Prelude.{Ok}
use Rattle.std.specs.List.{list_all}
use Rattle.site.specs.Bounds.{no_entry, EntryBounds, StandBounds, Bounds}
use Rattle.site.specs.Check.{due_rule}
use Rattle.site.specs.Ranges.{parent_range, depth_range, percolation_range, share_range, share_sum, most_yield, immobilisation_range, available_range, base_deposition_range, ratio_range, gibbsite_range, ceiling_range, leachate_range, temperature_range, dioxide_range}
use Rattle.site.specs.declared.RecordKind.{RecordKind}
use Rattle.site.specs.declared.RecordKind.TheVariants.{Tag52, Tag53, Tag54, Tag55}
use Rattle.site.specs.Kinds.{due, counted_temperature, counted_dioxide}
use Rattle.site.specs.Values.{count_rule, item_count, value_rule, stand_rule, composition_rule, entries_rule, known_rule, species_ranged, entry_ranged, rising_from, shares_of, inside}
use Rattle.site.proofs.Tests.{le_or_lt, and_l, and_r}
use Rattle.site.proofs.Passing.{pass_then, both_passed, inside_both, between_passed}
use Rattle.site.proofs.PartLaws.{test_at}
use Rattle.site.proofs.LengthLaws.{count_parts}
use Rattle.site.proofs.FieldLaws.{due_passed, site_passed}

pub entry_bounds : (k : RecordKind) (e : Entry) → entry_ranged k e ≡ true → EntryBounds e
unfolding entry_ranged
entry_bounds k e p =
    let species = species_ranged k e.species in
    let share = inside share_range e.share in
    let yielded = leb e.yield_kg most_yield in
    let both = and_l (species && share) yielded p in
    record {
      share = (inside_both share_range e.share (and_r species share both)).1;
      yielded = leb-true e.yield_kg most_yield (and_r (species && share) yielded p);
    }

no_entry_bounds : EntryBounds no_entry
no_entry_bounds = record { share = omega arith; yielded = omega arith }

each_bounds : (k : RecordKind) (es : List Entry) (n : ℕ) → list_all (entry_ranged k) (take n es) ≡ true → (i : ℕ) → i < n → EntryBounds (get_or es i no_entry)
each_bounds k es n p i h =
    ⊎_elim
    (λ (past : length es ≤ i). rw (get_or-eq_default es no_entry {n = i} past) no_entry_bounds)
    (λ (within : i < length es).
    let l : i < length (take n es) = simp length-take (omega arith) in
    rw get_or-take at (entry_bounds k (get_or (take n es) i no_entry) (test_at (entry_ranged k) (take n es) i no_entry l p)))
    (le_or_lt (length es) i)

stand_bounds : (list : List ℕ) (k : RecordKind) (s : Site) → count_rule 7 s ≡ Ok tt → value_rule list k 7 s ≡ Ok tt → StandBounds s.stand.entries s.stand.count
unfolding item_count value_rule stand_rule entries_rule
stand_bounds list k s c v =
    let n = s.stand.count in
    let es = take n s.stand.entries in
    record {
      count = (count_parts 7 s c).1;
      each = each_bounds k s.stand.entries n (pass_then (list_all (entry_ranged k) es) OutOfRange _ (both_passed (entries_rule k es) (known_rule list es) v).0).0;
    }

-- there are no entries, or their shares add up to 100
pub whole_shares : (es : List Entry) → composition_rule es ≡ Ok tt → (es ≡ []) ⊎ (shares_of es ≡ share_sum)
unfolding composition_rule
whole_shares [] p = inl refl
whole_shares (e ∷ es) p =
    let whole = (pass_then (rising_from 0 (e ∷ es)) NotRising _ p).1 in
    inr (eqb-true _ _ (pass_then (eqb (shares_of (e ∷ es)) share_sum) SharesNotWhole (Ok tt) whole).0)

share_bound : (list : List ℕ) (k : RecordKind) (s : Site) → value_rule list k 7 s ≡ Ok tt → shares_of (take s.stand.count s.stand.entries) ≤ share_sum
unfolding value_rule stand_rule entries_rule shares_of
share_bound list k s v =
    let es = take s.stand.count s.stand.entries in
    ⊎_elim
    (λ (none : es ≡ []). rw none (omega arith))
    (λ (whole : shares_of es ≡ share_sum). omega arith)
    (whole_shares es (pass_then (list_all (entry_ranged k) es) OutOfRange _ (both_passed (entries_rule k es) (known_rule list es) v).0).1)

module _ (list : List ℕ) (s : Site) (e : due_rule list s ≡ Ok tt) where
  value_at_lem : (t : ℕ) → 1 ≤ t → t ≤ 15 → value_rule list s.kind t s ≡ Ok tt
  value_at_lem t some most = (site_passed list s e t some most).1

  -- every entry is in its ranges
  pub site_ranged : list_all (entry_ranged s.kind) (take s.stand.count s.stand.entries) ≡ true
  unfolding value_rule stand_rule entries_rule
  site_ranged =
      let es = take s.stand.count s.stand.entries in
      (pass_then (list_all (entry_ranged s.kind) es) OutOfRange _ (both_passed (entries_rule s.kind es) (known_rule list es) (value_at_lem 7 (omega arith) (omega arith))).0).0

  temperature_in : 16 ≤ length (due s.kind) → s.temperature ≤ temperature_range.most
  unfolding value_rule
  temperature_in due = (between_passed temperature_range s.temperature (due_passed list s e 16 (omega arith) due).1).1

  -- the temperature that counts: the field's, or that of 8 °C
  temperature_bound : (k : RecordKind) → s.kind ≡ k → counted_temperature s ≤ temperature_range.most
  unfolding value_rule counted_temperature
  temperature_bound Tag52 is = rw is (omega arith)
  temperature_bound Tag53 is = rw is (temperature_in (rw is (omega arith)))
  temperature_bound Tag54 is = rw is (temperature_in (rw is (omega arith)))
  temperature_bound Tag55 is = rw is (temperature_in (rw is (omega arith)))

  -- the carbon dioxide that counts: the field's, or 0
  dioxide_bound : (k : RecordKind) → s.kind ≡ k → counted_dioxide s ≤ dioxide_range.most
  unfolding value_rule counted_dioxide
  dioxide_bound Tag52 is = rw is (omega arith)
  dioxide_bound Tag53 is = rw is (omega arith)
  dioxide_bound Tag54 is = rw is (omega arith)
  dioxide_bound Tag55 is =
      let due : 17 ≤ length (due s.kind) = rw is (omega arith) in
      rw is (between_passed dioxide_range s.dioxide (due_passed list s e 17 (omega arith) due).1).1

  pub bounds : Bounds s
  unfolding value_rule
  bounds = record {
    parent = (between_passed parent_range s.parent (value_at_lem 2 (omega arith) (omega arith))).1;
    depth = (between_passed depth_range s.depth (value_at_lem 4 (omega arith) (omega arith))).1;
    percolation = (between_passed percolation_range s.percolation (value_at_lem 6 (omega arith) (omega arith))).1;
    stand = stand_bounds list s.kind s (site_passed list s e 7 (omega arith) (omega arith)).0 (value_at_lem 7 (omega arith) (omega arith));
    shares = share_bound list s.kind s (value_at_lem 7 (omega arith) (omega arith));
    immobilisation = (between_passed immobilisation_range s.immobilisation (value_at_lem 8 (omega arith) (omega arith))).1;
    available = (between_passed available_range s.available (value_at_lem 9 (omega arith) (omega arith))).1;
    deposition = (between_passed base_deposition_range s.base_deposition (value_at_lem 10 (omega arith) (omega arith))).1;
    ratio = (between_passed ratio_range s.ratio (value_at_lem 11 (omega arith) (omega arith))).0;
    gibbsite = (between_passed gibbsite_range s.gibbsite (value_at_lem 12 (omega arith) (omega arith))).1;
    ceiling_least = (between_passed ceiling_range s.ceiling (value_at_lem 13 (omega arith) (omega arith))).0;
    ceiling = (between_passed ceiling_range s.ceiling (value_at_lem 13 (omega arith) (omega arith))).1;
    leachate = (between_passed leachate_range s.leachate (value_at_lem 14 (omega arith) (omega arith))).1;
    temperature = temperature_bound s.kind refl;
    dioxide = dioxide_bound s.kind refl;
  }
