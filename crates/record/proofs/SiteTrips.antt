-- Both round trips of a site's fields, by its laws by tag; and what reading leaves in a site.
use mathlib.Core.Path.{◌≡◌, refl, ap, subst, ◌∙◌}
use mathlib.Core.List.{List, [], ◌∷◌}
use Prim.Native.Nat.{ℕ, ◌*◌, ◌/◌}
use lib.Dec.{ltb}
use mathlib.Core.Bool.{true}
use borrow.Author.Tests.{ltb-true, ne_eqb}
use native.Mathlib.Omega.{arith}
use lib.ListN.{length, take}
use Rattle.std.specs.Prelude.{Ok}
use Rattle.std.specs.List.{list_all}
use Rattle.site.specs.declared.Site.{Site}
use Rattle.site.specs.declared.Entry.{Entry}
use Rattle.site.specs.Bounds.{no_entry}
use Rattle.site.specs.Bytes.{tabulate, name_in, entry_at}
use Rattle.site.specs.Check.{fields_rule, due_rule}
use Rattle.field.specs.Field.{store, entries_bytes, blank_site, blank_of, value, site_kind}
use Rattle.site.specs.Refusal.{and_then}
use Rattle.site.specs.declared.RecordKind.{RecordKind}
use Rattle.site.specs.declared.RecordKind.TheVariants.{Tag52, Tag53, Tag54, Tag55}
use Rattle.site.specs.Kinds.{due, entry_width, reference_temperature, counted_temperature, counted_dioxide}
use Rattle.site.specs.Values.{count_rule, value_rule}
use Rattle.site.proofs.Passing.{both_passed}
use Rattle.record.specs.Fields.{fields_in, encode_fields}
use Rattle.numbers.specs.TwoBytes.{AllBytes}
use Rattle.field.specs.Clean.{clean, Sized}
use Rattle.field.proofs.All.{All, none, ◌▸◌, all_of, all_by, map-all, zip_all, all_at}
use Rattle.field.proofs.TabulateLaws.{tabulate_pad}
use Rattle.field.proofs.EntryLaws.{word_back, entries_span, stand_back}
use Rattle.field.proofs.FieldValueLaws.{name_long, stand_counts, bytes_long, entries_ranged}
use Rattle.field.proofs.TagLaws.{Tidy, AsRead, TagLaws, tags}
use Rattle.record.proofs.Trips.{rises, through, every, written_again_lem, store_all, read_again}

-- ---- a site passes exactly where its fields do

pub fields_passed : (list : List ℕ) (k : RecordKind) (ts : List ℕ) (s : Site) → All (λ t. (count_rule t s ≡ Ok tt) × (value_rule list k t s ≡ Ok tt)) ts → fields_rule list k ts s ≡ Ok tt
unfolding fields_rule and_then
fields_passed list k [] s none = refl
fields_passed list k (t ∷ ts) s (p ▸ ps) = rw (p.0, p.1) (fields_passed list k ts s ps)

passed_fields : (list : List ℕ) (k : RecordKind) (ts : List ℕ) (s : Site) → fields_rule list k ts s ≡ Ok tt → All (λ t. (count_rule t s ≡ Ok tt) × (value_rule list k t s ≡ Ok tt)) ts
unfolding fields_rule
passed_fields list k [] s e = none
passed_fields list k (t ∷ ts) s e =
    let p = both_passed _ _ e in
    both_passed _ _ p.0 ▸ passed_fields list k ts s p.1

-- ---- what every field of a kind leaves

-- the tags of a kind rise
due_rises : (k : RecordKind) → rises 0 (due k) ≡ true
due_rises Tag52 = refl
due_rises Tag53 = refl
due_rises Tag54 = refl
due_rises Tag55 = refl

module _ (list : List ℕ) (k : RecordKind) (s : Site) (bs : List ℕ) (at : ℕ) (e : fields_in (site_kind list k) bs at ≡ Ok s) where
  -- the kind
  pub walked_kind : s.kind ≡ k
  unfolding store blank_of
  walked_kind = through (site_kind list k) (λ x. x.kind ≡ k) (due k) (all_of (λ u v x p. p) (due k)) (blank_of k) s bs at e refl

  as_read : All (λ t. AsRead list k t s) (due k)
  as_read = every (site_kind list k) (AsRead list k) (due k) 0 (due_rises k) (map-all (λ t (l : TagLaws list k t). l.read) (tags list k)) (blank_of k) s bs at e

  -- ---- a site that was read passes the check

  pub walked_passes : due_rule list s ≡ Ok tt
  unfolding due_rule
  walked_passes = ap (λ j. fields_rule list j (due j) s) walked_kind ∙ fields_passed list k (due k) s (map-all (λ t (r : AsRead list k t s). (r.count, r.rule)) as_read)

  -- and is written as it was
  pub encode_read : AllBytes bs → encode_fields (site_kind list k) (due k) s ≡ bs
  encode_read b = written_again_lem (site_kind list k) (due k) 0 (due_rises k) (map-all (λ t (l : TagLaws list k t). l.kept) (tags list k)) (blank_of k) s bs at b e

-- ---- a site that was read is clean

-- no field of kind 52 is the temperature
no_temperature : (u : ℕ) → ltb u 16 ≡ true → (v : List ℕ) (x : Site) → x.temperature ≡ reference_temperature → (store Tag52 u v x).temperature ≡ reference_temperature
unfolding store
no_temperature u h v x p = let other : u ≡ 16 → ⊥ = λ i. omega (arith, ltb-true u 16 h) in rw (ne_eqb u 16 other) p

walked_temperature : (list : List ℕ) (k : RecordKind) (s : Site) (bs : List ℕ) (at : ℕ) → fields_in (site_kind list k) bs at ≡ Ok s → counted_temperature s ≡ s.temperature
unfolding counted_temperature blank_of blank_site
walked_temperature list Tag52 s bs at e =
    let kept = through (site_kind list Tag52) (λ x. x.temperature ≡ reference_temperature) (due Tag52) (map-all no_temperature (all_by (λ u. ltb u 16) (due Tag52) refl)) (blank_of Tag52) s bs at e refl in
    rw (walked_kind list Tag52 s bs at e, kept)
walked_temperature list Tag53 s bs at e = rw (walked_kind list Tag53 s bs at e)
walked_temperature list Tag54 s bs at e = rw (walked_kind list Tag54 s bs at e)
walked_temperature list Tag55 s bs at e = rw (walked_kind list Tag55 s bs at e)

-- no field of the kinds before 55 is the carbon dioxide
no_dioxide : (k : RecordKind) (u : ℕ) → ltb u 17 ≡ true → (v : List ℕ) (x : Site) → x.dioxide ≡ 0 → (store k u v x).dioxide ≡ 0
unfolding store
no_dioxide k u h v x p = let other : u ≡ 17 → ⊥ = λ i. omega (arith, ltb-true u 17 h) in rw (ne_eqb u 17 other) p

kept_dioxide : (list : List ℕ) (k : RecordKind) → list_all (λ u. ltb u 17) (due k) ≡ true → (s : Site) (bs : List ℕ) (at : ℕ) → fields_in (site_kind list k) bs at ≡ Ok s → s.dioxide ≡ 0
unfolding blank_of blank_site
kept_dioxide list k few s bs at e = through (site_kind list k) (λ x. x.dioxide ≡ 0) (due k) (map-all (no_dioxide k) (all_by (λ u. ltb u 17) (due k) few)) (blank_of k) s bs at e refl

walked_dioxide : (list : List ℕ) (k : RecordKind) (s : Site) (bs : List ℕ) (at : ℕ) → fields_in (site_kind list k) bs at ≡ Ok s → counted_dioxide s ≡ s.dioxide
unfolding counted_dioxide
walked_dioxide list Tag52 s bs at e = rw (walked_kind list Tag52 s bs at e, kept_dioxide list Tag52 refl s bs at e)
walked_dioxide list Tag53 s bs at e = rw (walked_kind list Tag53 s bs at e, kept_dioxide list Tag53 refl s bs at e)
walked_dioxide list Tag54 s bs at e = rw (walked_kind list Tag54 s bs at e, kept_dioxide list Tag54 refl s bs at e)
walked_dioxide list Tag55 s bs at e = rw (walked_kind list Tag55 s bs at e)

-- of all the fields the name and the stand, which every kind has
name_and_stand : {P : ℕ → Type 0} (k : RecordKind) → All P (due k) → P 1 × P 7
name_and_stand Tag52 a = (all_at a 0 0 (omega arith), all_at a 6 0 (omega arith))
name_and_stand Tag53 a = (all_at a 0 0 (omega arith), all_at a 6 0 (omega arith))
name_and_stand Tag54 a = (all_at a 0 0 (omega arith), all_at a 6 0 (omega arith))
name_and_stand Tag55 a = (all_at a 0 0 (omega arith), all_at a 6 0 (omega arith))

module _ (list : List ℕ) (k : RecordKind) (s : Site) (bs : List ℕ) (at : ℕ) (e : fields_in (site_kind list k) bs at ≡ Ok s) where
  pub walked_clean : clean s ≡ s
  unfolding Tidy clean
  walked_clean =
      let p = name_and_stand k (as_read list k s bs at e) in
      rw (p.0.tidy, p.1.tidy, walked_temperature list k s bs at e, walked_dioxide list k s bs at e)

-- ---- the fields that are written are read again

module _ (list : List ℕ) (s : Site) (z : Sized s) (e : due_rule list s ≡ Ok tt) where
  passed : All (λ t. (count_rule t s ≡ Ok tt) × (value_rule list s.kind t s ≡ Ok tt)) (due s.kind)
  unfolding due_rule
  passed = passed_fields list s.kind (due s.kind) s e

  abbrev name_bytes : List ℕ
  name_bytes = take s.name.len s.name.bytes

  abbrev entries : List Entry
  entries = take s.stand.count s.stand.entries

  -- name and stand, as they are stored from their own bytes
  name_stored : record { bytes = name_in name_bytes; len = length name_bytes } ≡ (clean s).name
  unfolding clean
  name_stored = rw (tabulate_pad 8 8 name_bytes 0 (omega arith), name_long s z (name_and_stand s.kind passed).0.0)

  stand_stored : (k : RecordKind) → s.kind ≡ k
      → record { entries = tabulate 4 (λ i. entry_at k (entries_bytes k entries) (entry_width k * i)); count = length (entries_bytes k entries) / entry_width k } ≡ (clean s).stand
  unfolding clean
  stand_stored k is =
      let p = (name_and_stand s.kind passed).1 in
      let few = stand_counts s z p.0 in
      rw (stand_back k 4 entries (entries_ranged list k s (subst (λ j. value_rule list j 7 s ≡ Ok tt) is p.1)), tabulate_pad 4 4 entries no_entry (omega arith), bytes_long s z p.0 k, (entries_span k s.stand.count few).2)

  stored_is_clean : (k : RecordKind) → s.kind ≡ k → store_all (site_kind list k) (due k) s (blank_of k) ≡ clean s
  unfolding store_all store value clean blank_of blank_site counted_temperature counted_dioxide
  stored_is_clean Tag52 is = rw (is, name_stored, stand_stored _ is) (simp word_back)
  stored_is_clean Tag53 is = rw (is, name_stored, stand_stored _ is) (simp word_back)
  stored_is_clean Tag54 is = rw (is, name_stored, stand_stored _ is) (simp word_back)
  stored_is_clean Tag55 is = rw (is, name_stored, stand_stored _ is) (simp word_back)

  pub read_encode : (at : ℕ) → fields_in (site_kind list s.kind) (encode_fields (site_kind list s.kind) (due s.kind) s) at ≡ Ok (clean s)
  read_encode at =
      read_again (site_kind list s.kind) (due s.kind) s (blank_of s.kind) at (zip_all (λ t (l : TagLaws list s.kind t) p. l.again s z p.0 p.1) (tags list s.kind) passed) ∙ ap Ok (stored_is_clean s.kind refl)
