-- A converted file passes the checks with the same terms, loads and marks, and converts back to its own bytes.
use mathlib.Core.Path.{◌≡◌, refl, sym, ap, ◌∙◌}
use mathlib.Core.List.{List, [], ◌∷◌, map}
use Prim.Native.Nat.{ℕ, suc, ◌≤◌, ◌<◌}
use native.Mathlib.Omega.{arith}
use lib.ListN.{length, get_or, length-map}
use Rattle.std.specs.Prelude.{Ok}
use Rattle.std.proofs.lemmas.Simd.{map-map}
use Rattle.numbers.specs.TwoBytes.{AllBytes}
use Rattle.loads.specs.Check.{site_rule}
use Rattle.site.specs.declared.Site.{Site}
use Rattle.loads.specs.SiteTerms.{terms_of}
use Rattle.judgement.specs.Answers.{judged_of}
use Rattle.field.specs.Clean.{clean, Sized}
use Rattle.field.specs.Field.{blank_site}
use Rattle.field.proofs.All.{All, none, ◌▸◌, all_of, map-all, zip_all}
use Rattle.record.specs.File.{contents}
use Rattle.site.specs.declared.RecordKind.TheVariants.{Tag55}
use Rattle.record.proofs.OlderLaws.{older_contents, contents_older}
use Rattle.record.proofs.SiteFile.{sites_none, sites_checked, sites_clean, sites_written, sites_read}
use Rattle.listing.specs.Rows.{row_of}
use Rattle.listing.specs.Reports.{printed, report_of}
use Rattle.convert.specs.declared.targets.Target.{Target}
use Rattle.convert.specs.Target.{kind_of}
use Rattle.convert.specs.Moved.{moved, Older, temperature_convertible, Converts}
use Rattle.convert.specs.Converted.{movable, converted, file_of}
use Rattle.convert.specs.SameRecords.{OfKind, SameRecords}
use Rattle.convert.proofs.MovedLaws.{old_moved, moved_terms, moved_judged, moved_row, moved_passes, moved_clean, moved_back, moved_itself, moved_sized, back_converts}
use Rattle.convert.proofs.ConvertedLaws.{all_converts}

-- ---- all sites of a list

all_moved_by : {B : Type 0} (h : Site → B) (k : Target) (ss : List Site) → All (λ s. h (moved k s) ≡ h s) ss → map h (map (moved k) ss) ≡ map h ss
all_moved_by h k [] none = refl
all_moved_by h k (s ∷ ss) (p ▸ ps) = rw (p, all_moved_by h k ss ps)

map_same : (f : Site → Site) (ss : List Site) → All (λ s. f s ≡ s) ss → map f ss ≡ ss
map_same f [] none = refl
map_same f (s ∷ ss) (p ▸ ps) = rw (p, map_same f ss ps)

pub map_each : {P : Site → Type 0} (f : Site → Site) (ss : List Site) → All (λ s. P (f s)) ss → All P (map f ss)
map_each f [] none = none
map_each f (s ∷ ss) (p ▸ ps) = p ▸ map_each f ss ps

-- by their places
all_places : {P : Site → Type 0} (ss : List Site) → ((i : ℕ) → i < length ss → P (get_or ss i blank_site)) → All P ss
all_places [] h = none
all_places (s ∷ ss) h = h 0 (omega arith) ▸ all_places ss (λ i l. h (suc i) (omega arith))

-- ---- a file that passes, all of whose sites a record of kind k can hold

module _ (list f : List ℕ) (b : AllBytes f) (k : Target) (ss : List Site) (from : movable list f ≡ Ok ss) (c : All (Converts k) ss) where
  e : contents list f ≡ Ok ss
  e = (older_contents list f ss from).0

  old : All Older ss
  old = (older_contents list f ss from).1

  pub passed : All (λ s. site_rule list s ≡ Ok tt) ss
  passed = (sites_checked list f ss e).1

  pub tidy : All (λ s. clean s ≡ s) ss
  tidy = sites_clean list f ss e

  held : All (λ s. temperature_convertible k s ≡ Ok tt) ss
  held = map-all (λ s (x : Converts k s). x.temperature) c

  old_held : All (λ s. Older s × (temperature_convertible k s ≡ Ok tt)) ss
  old_held = zip_all (λ s o h. (o, h)) old held

  some : 1 ≤ length ss
  some = by_sites ss refl
    where
      by_sites : (xs : List Site) → ss ≡ xs → 1 ≤ length xs
      by_sites (x ∷ xs) is = omega arith
      by_sites [] is =
          let nothing : f ≡ [] = sites_written list f b ss e ∙ rw is refl in
          let bad = sym (sites_none Tag55 list f (rw nothing (omega arith))) ∙ e in
          cc

  -- the converted file passes, and holds the sites that were moved
  pub converted_passes : contents list (file_of (map (moved k) ss)) ≡ Ok (map (moved k) ss)
  converted_passes =
      let sized : All (λ s. Sized (moved k s) × (site_rule list (moved k s) ≡ Ok tt)) ss = zip_all (λ s t p. (moved_sized s t k, p)) tidy (zip_all (λ s p (x : Older s × Converts k s). moved_passes list k s p x.1 x.0) passed (zip_all (λ s o x. (o, x)) old c)) in
      let most = (sites_checked list f ss e).0 in
      let again = zip_all (λ s t (x : Older s × (temperature_convertible k s ≡ Ok tt)). moved_clean s t k x.1 x.0) tidy old_held in
      sites_read list (map (moved k) ss) (map_each (moved k) ss sized) (omega (arith, some, length-map ss (moved k))) (omega (arith, most, length-map ss (moved k)))
      ∙ ap Ok (map_same clean (map (moved k) ss) (map_each (moved k) ss again))

  same_terms : map (terms_of list) (map (moved k) ss) ≡ map (terms_of list) ss
  same_terms = all_moved_by (terms_of list) k ss (map-all (λ s (x : Older s × (temperature_convertible k s ≡ Ok tt)). moved_terms k s x.0 x.1 list) old_held)

  same_judged : map (judged_of list) (map (moved k) ss) ≡ map (judged_of list) ss
  same_judged = all_moved_by (judged_of list) k ss (map-all (λ s (x : Older s × (temperature_convertible k s ≡ Ok tt)). moved_judged k s x.0 x.1 list) old_held)

  same_listed : report_of list (file_of (map (moved k) ss)) ≡ report_of list f
  unfolding report_of printed
  same_listed = rw (converted_passes, e, all_moved_by (row_of list) k ss (map-all (λ s (x : Older s × (temperature_convertible k s ≡ Ok tt)). moved_row k s x.0 x.1 list) old_held)) refl

  back_all : (j : Target) → All (λ s. s.kind ≡ kind_of j) ss → All (Converts j) (map (moved k) ss)
  back_all j kinds = map_each (moved k) ss (zip_all (λ s is (x : (site_rule list s ≡ Ok tt) × (temperature_convertible k s ≡ Ok tt)). back_converts list s x.0 k j is x.1) kinds (zip_all (λ s p h. (p, h)) passed held))

  back_sites : (j : Target) → All (λ s. s.kind ≡ kind_of j) ss → map (moved j) (map (moved k) ss) ≡ ss
  back_sites j kinds =
      map-map (moved j) (moved k) ss ∙ map_same (λ s. moved j (moved k s)) ss (zip_all (λ s is (x : (clean s ≡ s) × (temperature_convertible k s ≡ Ok tt)). moved_back s x.0 k x.1 j is) kinds (zip_all (λ s t h. (t, h)) tidy held))

  -- none of them has field 11 either
  again_movable : movable list (file_of (map (moved k) ss)) ≡ Ok (map (moved k) ss)
  again_movable = contents_older list (file_of (map (moved k) ss)) (map (moved k) ss) converted_passes (map_each (moved k) ss (all_of (λ s. old_moved k s) ss))

  goes_back : (j : Target) → OfKind (kind_of j) ss → (converted j (movable list (file_of (map (moved k) ss))) ≡ Ok ss) × (file_of ss ≡ f)
  unfolding converted
  goes_back j kinds =
      let each = all_places ss kinds in
      (rw again_movable (all_converts j (map (moved k) ss) (back_all j each) 0 ∙ ap Ok (back_sites j each)), sym (sites_written list f b ss e))

  is_itself : OfKind (kind_of k) ss → file_of (map (moved k) ss) ≡ f
  is_itself kinds =
      let each = zip_all (λ s is t. moved_itself s t k is) (all_places ss kinds) tidy in
      ap file_of (map_same (moved k) ss each) ∙ sym (sites_written list f b ss e)

  pub same_records : SameRecords list k f (file_of (map (moved k) ss))
  same_records = record {
    sites = ss;
    holds = e;
    passes = converted_passes;
    terms = same_terms;
    judged = same_judged;
    listed = same_listed;
    back = goes_back;
    itself = is_itself;
  }
