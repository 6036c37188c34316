-- From the sites of a file to what the call answers and writes.
use mathlib.Core.Path.{◌≡◌, refl, sym, ap, ◌∙◌}
use mathlib.Core.Logic.{⊎_elim}
use mathlib.Core.List.{List, [], ◌∷◌, map}
use Prim.Native.Nat.{ℕ, ◌+◌, ◌*◌, ◌≤◌, ◌<◌}
use native.Mathlib.Omega.{arith}
use lib.ListN.{length, get_or, get_or-eq_default, take, length-append, length-map}
use Rattle.std.specs.Prelude.{Ok, Err, IfOk, flat_map}
use Rattle.std.specs.List.{All as Each}
use Rattle.std.proofs.lemmas.List.Elements.{All-from_get_or}
use Rattle.field.specs.Field.{blank_site}
use Rattle.std.proofs.lemmas.List.Folds.{flat_map-map}
use Rattle.numbers.specs.TwoBytes.{AllBytes}
use Rattle.site.specs.Ranges.{most_records}
use Rattle.site.specs.declared.RecordKind.TheVariants.{Tag54}
use Rattle.site.specs.declared.Refusal.{Refusal}
use Rattle.site.specs.declared.Rule.TheVariants.{BufferShort}
use Rattle.site.specs.declared.Site.{Site}
use Rattle.site.proofs.Tests.{le_or_lt}
use Rattle.output.specs.Output.{Written}
use Rattle.output.specs.Writing.{Wrote}
use Rattle.field.specs.Clean.{Sized}
use Rattle.field.proofs.All.{All, none, ◌▸◌, map-all, zip_all, all_at}
use Rattle.text.proofs.TextAnswers.{text_refused, text_printed, written}
use Rattle.record.specs.File.{Contents}
use Rattle.record.specs.Records.{most_record}
use Rattle.record.specs.Writer.{encode, most_site_record}
use Rattle.record.proofs.EncodeLaws.{record_few}
use Rattle.record.proofs.OlderLaws.{older_contents}
use Rattle.record.proofs.SiteFile.{sites_checked, sites_clean, sites_written, sites_fault_near}
use Rattle.listing.proofs.FileWrittenLaws.{FileWritten, file_written, file_refused}
use Rattle.convert.specs.declared.targets.Target.{Target}
use Rattle.convert.specs.Moved.{moved, Older, Converts}
use Rattle.convert.specs.Converted.{all_moved, moved_record, movable, converted, file_of, most_converted}
use Rattle.convert.specs.SameRecords.{SameRecords}
use Rattle.convert.proofs.FaultLaws.{fault_at_field}
use Rattle.convert.proofs.MovedLaws.{old_moved, clean_sized, moved_sized}
use Rattle.convert.proofs.ConvertedLaws.{old_short, all_moved_ok}
use Rattle.convert.proofs.SameRecordsLaws.{map_each, tidy, same_records}

-- no record without field 11 is longer than the greatest of kind 54
records_few : (ss : List Site) → All (λ s. Sized s × Older s) ss → length (file_of ss) ≤ most_site_record Tag54 * length ss
records_few [] none = omega arith
records_few (s ∷ ss) (z ▸ zs) = omega (arith, length-append (encode s) (file_of ss), record_few s z.0, old_short s.kind z.1, records_few ss zs)

-- no refusal lies past 500 records of the greatest length
module _ (list f : List ℕ) (b : AllBytes f) (k : Target) where
  inconvertible_near : (ss : List Site) → movable list f ≡ Ok ss → {r : Refusal} → all_moved k 0 ss ≡ Err r → r.at ≤ most_record * most_records
  inconvertible_near ss e {r} fault =
      let whole = older_contents list f ss e in
      let sized : All (λ s. Sized s × Older s) ss = zip_all (λ s t o. (clean_sized s t, o)) (sites_clean list f ss whole.0) whole.1 in
      let long : length f ≤ most_site_record Tag54 * length ss = rw (sites_written list f b ss whole.0) (records_few ss sized) in
      omega (arith, ⊎_elim (λ h. inside 6 h.1) (λ h. inside 15 h.1.1) (fault_at_field list f b k ss whole.0 fault).1, long, (sites_checked list f ss whole.0).0)
    where
      inside : (t : ℕ) → get_or f r.at 0 ≡ t + 1 → r.at < length f
      inside t h =
          ⊎_elim
          (λ (past : length f ≤ r.at). let none : get_or f r.at 0 ≡ 0 = get_or-eq_default f 0 {n = r.at} past in absurd (omega arith))
          (λ (before : r.at < length f). before)
          (le_or_lt (length f) r.at)

  pub converted_near : (r : Refusal) → converted k (movable list f) ≡ Err r → r.at ≤ most_record * most_records
  unfolding converted
  converted_near r e = by_contents (movable list f) refl e
    where
      by_contents : (c : Contents Site) → movable list f ≡ c → converted k c ≡ Err r → r.at ≤ most_record * most_records
      by_contents (Ok ss) q fault = inconvertible_near ss q fault
      by_contents (Err j) q fault = let same : j ≡ r = cc in rw (← same) (sites_fault_near Tag54 list f q)

module _ (list f d : List ℕ) (k : Target) where
  -- the clauses of the call
  abbrev Clauses : List ℕ → Written → Type 0
  Clauses e r = FileWritten most_converted file_of (converted k (movable list f)) d e r × IfOk r (λ n. SameRecords list k f (take n e))

  -- the file's own fault
  pub convert_fault : {r : Refusal} → movable list f ≡ Err r → Clauses d (Err r)
  unfolding converted
  convert_fault e = (file_refused most_converted file_of (converted k (movable list f)) d (rw e), tt)

  module _ (ss : List Site) (e : movable list f ≡ Ok ss) where
    -- none of its records has field 11
    pub old_sites : Each Older ss
    old_sites = All-from_get_or Older ss blank_site (λ i h. all_at (older_contents list f ss e).1 i blank_site h)

    -- rule 17
    pub convert_inconvertible : {r : Refusal} → all_moved k 0 ss ≡ Err r → Clauses d (Err r)
    unfolding converted
    convert_inconvertible m = (file_refused most_converted file_of (converted k (movable list f)) d (rw e m), tt)

    module _ (b : AllBytes f) {n : ℕ} (all : (all_moved k 0 ss ≡ Ok (map (moved k) ss)) × (n ≡ length (flat_map (moved_record k) ss))) where
      holds : All (Converts k) ss
      holds = all_moved_ok k ss 0 all.0

      made : converted k (movable list f) ≡ Ok (map (moved k) ss)
      unfolding converted
      made = rw e all.0

      bytes : flat_map (moved_record k) ss ≡ file_of (map (moved k) ss)
      bytes = sym (flat_map-map encode (moved k) ss)

      long : n ≡ length (file_of (map (moved k) ss))
      long = all.1 ∙ ap length bytes

      few : length (file_of (map (moved k) ss)) ≤ most_converted
      few =
          let sized : All (λ s. Sized s × Older s) (map (moved k) ss) = map_each (moved k) ss (map-all (λ s t. (moved_sized s t k, old_moved k s)) (tidy list f b k ss e holds)) in
          omega (arith, records_few (map (moved k) ss) sized, length-map ss (moved k), (sites_checked list f ss (older_contents list f ss e).0).0)

      -- rule 11
      pub convert_short : length d < n → Clauses d (Err (record { rule = BufferShort; at = 0 }))
      convert_short h = (file_written most_converted file_of (converted k (movable list f)) d (map (moved k) ss) made (text_refused (file_of (map (moved k) ss)) d (omega (arith, long)) few), tt)

      pub convert_done : n ≤ length d → {e' : List ℕ} {r : ℕ} → Wrote d 0 (flat_map (moved_record k) ss) e' r → Clauses e' (Ok r)
      convert_done h w =
          let text = file_of (map (moved k) ss) in
          let a = text_printed {most = most_converted} text (rw bytes at w) (omega (arith, long)) few in
          (file_written most_converted file_of (converted k (movable list f)) d (map (moved k) ss) made a, rw (written text d _ _ a.answer a.buffer _ refl) (same_records list f b k ss e holds))
