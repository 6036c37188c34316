-- Laws of a file of site records.
use Prim.Native.Nat.{ℕ, ◌*◌, ◌-◌, ◌≤◌, ◌<◌}
use mathlib.Core.Path.{◌≡◌, sym, ap, ◌∙◌}
use mathlib.Core.Logic.{◌⊎◌, inl, inr, ⊎_elim}
use mathlib.Core.List.{List, [], map}
use native.Mathlib.Omega.{arith}
use lib.ListN.{length, get_or, take, drop}
use Rattle.std.specs.Prelude.{Ok, Err, flat_map}
use Rattle.site.specs.Ranges.{most_records}
use Rattle.site.specs.declared.RecordKind.{RecordKind}
use Rattle.site.specs.declared.RecordKind.TheVariants.{Tag55}
use Rattle.site.specs.declared.Site.{Site}
use Rattle.site.specs.declared.Refusal.{Refusal}
use Rattle.site.specs.declared.Rule.TheVariants.{NoBytes}
use Rattle.loads.specs.Check.{site_rule}
use Rattle.field.specs.Field.{site_kind}
use Rattle.record.specs.Outer.{known_to, site_kinds, fields_at, site_to, site_at, read_record}
use Rattle.record.specs.Records.{most_record}
use Rattle.record.specs.FirstFault.{OuterBroken, InnerBroken, LoadBroken, FileFault}
use Rattle.record.specs.File.{walk_file, contents_by, alone, contents_to, contents, most_file}
use Rattle.numbers.specs.TwoBytes.{AllBytes}
use Rattle.field.specs.Clean.{clean, Sized}
use Rattle.record.specs.Writer.{encode}
use Rattle.field.proofs.All.{All}
use Rattle.record.proofs.EncodeLaws.{encode_length}
use Rattle.record.proofs.FileLaws.{contents_none, contents_some, contents_every, file_of_one, contents_more, contents_written, contents_read}
use Rattle.record.proofs.FirstFaultLaws.{first_in_record, first_in_file, file_fault_near}
use Rattle.record.proofs.FieldBytes.{part_bytes}
use Rattle.record.proofs.PairLaws.{PairRange, pair_range}
use Rattle.record.proofs.Place.{site_fault, site_take, site_fault_near, site_near, site_inside, site_after, site_passes, site_clean, site_bytes, site_read}

module _ (newest : RecordKind) (list f : List ℕ) where
  pub sites_none : length f ≤ 0 → contents_to newest list f ≡ Err (record { rule = NoBytes; at = 0 })
  unfolding contents_to
  sites_none h = contents_none (site_to newest list f) (length f) most_records h

  pub sites_some : 0 < length f → contents_to newest list f ≡ walk_file (site_to newest list f) (length f) most_records 0
  unfolding contents_to
  sites_some h = contents_some (site_to newest list f) (length f) most_records h

  -- a fault of a file lies at most 500 records of the greatest length from the start
  pub sites_fault_near : {r : Refusal} → contents_to newest list f ≡ Err r → r.at ≤ most_record * most_records
  unfolding contents_to
  sites_fault_near e = file_fault_near (site_to newest list f) most_record (λ at x r. site_near newest list f at r) (λ at r e. site_fault_near newest list f at e) (length f) most_records e

module _ (list f : List ℕ) where
  -- a fault is the first from the left
  pub sites_first_fault : {r : Refusal} → contents list f ≡ Err r → FileFault (site_at list f) (length f) most_records r
  unfolding contents_to
  sites_first_fault {r} e = first_in_file (site_at list f) (length f) r most_records e

  -- a single record is read as a file of at most one, with 4 for bytes after that one
  pub single_is : contents_by 1 (site_at list f) (length f) ≡ alone (read_record list f)
  unfolding read_record
  single_is = file_of_one (site_at list f) (length f) (λ x r. site_inside Tag55 list f 0 r)

  -- so of a single record too the first fault is given
  pub single-first_fault : {r : Refusal} → read_record list f ≡ Err r → FileFault (site_at list f) (length f) 1 r
  unfolding alone
  single-first_fault {r} e = first_in_file (site_at list f) (length f) r 1 (single_is ∙ ap alone e)

  -- and within the record that starts at an offset
  pub site_first_fault : (start : ℕ) {r : Refusal} → site_at list f start ≡ Err r
      → OuterBroken (known_to Tag55) (drop start f) start r ⊎ InnerBroken (known_to Tag55) (site_kinds list (get_or (drop start f) 0 0)) (drop start f) start r ⊎ LoadBroken Tag55 list f start r
  unfolding fields_at
  site_first_fault start {r} e =
      ⊎_elim
      (λ (i : fields_at Tag55 list f start ≡ Err r).
      ⊎_elim (λ o. inl o) (λ n. inr (inl n)) (first_in_record (known_to Tag55) (site_kinds list) (drop start f) start r i))
      (λ l. inr (inr l))
      (site_fault Tag55 list f start e)

  -- the sites of a file that passes: at most 500, and each passes the check
  pub sites_checked : (ss : List Site) → contents list f ≡ Ok ss → (length ss ≤ most_records) × All (λ s. site_rule list s ≡ Ok tt) ss
  unfolding contents_to
  sites_checked ss e = contents_every (site_at list f) (length f) (λ s. site_rule list s ≡ Ok tt) (λ at x r. site_passes Tag55 list f at r) most_records ss e

  -- and each has zeros past its name and entries, and the temperature that counts
  pub sites_clean : (ss : List Site) → contents list f ≡ Ok ss → All (λ s. clean s ≡ s) ss
  unfolding contents_to
  sites_clean ss e = (contents_every (site_at list f) (length f) (λ s. clean s ≡ s) (λ at x r. site_clean Tag55 list f at r) most_records ss e).1

  -- and S and N of each, where the file is bytes, are in their range
  pub sites_pairs : AllBytes f → (ss : List Site) → contents list f ≡ Ok ss → All PairRange ss
  unfolding contents_to
  sites_pairs b ss e =
      (contents_every (site_at list f) (length f) PairRange (λ at x r. pair_range x.0 (rw (site_bytes Tag55 list f at r b) (part_bytes (x.1 - at) at f b))) most_records ss e).1

  pub sites_more : (m : ℕ) → most_file ≤ m → contents list (take m f) ≡ contents list f
  unfolding contents_to
  sites_more m h = contents_more (site_at list) most_record (site_take Tag55 list) (λ g at x r. site_near Tag55 list g at r) most_records f m (omega arith)

  -- a file that passes is the records of its sites, one after another
  pub sites_written : AllBytes f → (ss : List Site) → contents list f ≡ Ok ss → f ≡ flat_map encode ss
  unfolding contents_to
  sites_written b ss e = contents_written (site_at list f) encode f (λ at x r. (omega (arith, site_after Tag55 list f at r), site_bytes Tag55 list f at r b)) most_records ss e

-- 1 to 500 sites that pass, encoded one after another, are read back, as `clean` has them
pub sites_read : (list : List ℕ) (ss : List Site) → All (λ s. Sized s × (site_rule list s ≡ Ok tt)) ss → 1 ≤ length ss → length ss ≤ most_records
    → contents list (flat_map encode ss) ≡ Ok (map clean ss)
unfolding contents_to
sites_read list ss ok h l =
    contents_read (site_at list) encode clean (λ s. Sized s × (site_rule list s ≡ Ok tt)) (λ s. omega (arith, encode_length (site_kind [] s.kind) s))
    (λ s p f at rest e. site_read list s p.0 p.1 f rest at e) most_records ss ok h l

-- two different files never hold the same sites, with one list or with two
pub sites_injective : (list more f g : List ℕ) → AllBytes f → AllBytes g → (ss : List Site) → contents list f ≡ Ok ss → contents more g ≡ Ok ss → f ≡ g
sites_injective list more f g b c ss p q = sites_written list f b ss p ∙ sym (sites_written more g c ss q)
