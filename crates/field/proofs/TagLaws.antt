-- The fields of a site by tag: what was stored is written, what is written is read, and other fields stay.
use mathlib.Core.Path.{◌≡◌, refl, sym}
use mathlib.Core.Bool.{true}
use mathlib.Core.List.{List, [], ◌∷◌, ◌++◌}
use Prim.Native.Nat.{ℕ, ◌+◌, ◌*◌, ◌/◌, ◌≤◌}
use native.Mathlib.Nat.{mul-le-mul_left}
use native.Mathlib.Omega.{arith}
use lib.Dec.{leb, eqb}
use lib.ListN.{length, get_or, take, replicate, get_or-eq_default}
use borrow.Author.Tests.{ne_eqb}
use Rattle.site.specs.declared.Site.{Site}
use Rattle.std.specs.Prelude.{Ok}
use Rattle.site.specs.Bounds.{no_entry}
use Rattle.site.specs.Choice.{pick}
use Rattle.site.specs.Bytes.{tabulate, entry_at}
use Rattle.field.specs.Field.{store, entries_bytes, value, site_kind}
use Rattle.field.specs.Kind.{Kind, field_rule}
use Rattle.site.specs.Ranges.{parent_range, depth_range, drainage_range, percolation_range, immobilisation_range, available_range, base_deposition_range, ratio_range, gibbsite_range, ceiling_range, leachate_range, temperature_range, dioxide_range}
use Rattle.site.specs.declared.RecordKind.{RecordKind}
use Rattle.site.specs.declared.RecordKind.TheVariants.{Tag52, Tag53, Tag54, Tag55}
use Rattle.site.specs.Kinds.{due, entry_width}
use Rattle.site.specs.Values.{one_value, items_of, length_permitted, item_count, count_rule, value_rule, ranged, between}
use Rattle.site.proofs.LengthLaws.{permitted_parts, parts_permitted, parts_counted, one_value_length}
use Rattle.numbers.specs.TwoBytes.{AllBytes}
use Rattle.field.specs.Clean.{Sized}
use Rattle.field.proofs.All.{All, none, ◌▸◌}
use Rattle.field.proofs.TabulateLaws.{take-tabulate, tabulate-clean}
use Rattle.site.proofs.EntryPast.{entry_past}
use Rattle.field.proofs.EntryLaws.{counted, entries_span, stand_back, entries_back}
use Rattle.field.proofs.KindLaws.{Made, Kept, parts_passed, OneLength, OneItem, byte_item, word_item, pair_item, words_item}
use Rattle.field.proofs.FieldValueLaws.{name_counts, name_long, stand_counts, stand_long, bytes_long, entries_ranged}

-- ---- what was stored is written

name_kept : (k : RecordKind) (v : List ℕ) → length_permitted k 1 (length v) ≡ true → take (length v) (tabulate 8 (λ i. get_or v i 0)) ≡ v
name_kept k v p = let q = permitted_parts k 1 (length v) p in take-tabulate 8 v 0 (omega arith)

-- the bytes of a stand are those of its entries, at most 4
stand_span : (k : RecordKind) (v : List ℕ) → length_permitted k 7 (length v) ≡ true
    → (entry_width k * (length v / entry_width k) ≡ length v) × (length v / entry_width k ≤ 4)
stand_span k v p = let q = permitted_parts k 7 (length v) p in counted k (length v) q.1 q.2

stand_kept : (k : RecordKind) (v : List ℕ) → length_permitted k 7 (length v) ≡ true → AllBytes v
    → entries_bytes k (take (length v / entry_width k) (tabulate 4 (λ i. entry_at k v (entry_width k * i)))) ≡ v
stand_kept k v p b = let q = stand_span k v p in entries_back k (length v / entry_width k) 4 v q.1 (sym q.0) b

-- ---- what reading a field leaves in a site

-- zeros past the name and past the entries
abbrev NameTidy : Site → Type 0
NameTidy s = take 8 (take s.name.len s.name.bytes ++ replicate 8 0) ≡ s.name.bytes

abbrev StandTidy : Site → Type 0
StandTidy s = take 4 (take s.stand.count s.stand.entries ++ replicate 4 no_entry) ≡ s.stand.entries

unfoldable pub Tidy : ℕ → Site → Type 0
Tidy t s = pick (eqb t 1) (NameTidy s) (pick (eqb t 7) (StandTidy s) Unit)

-- rule 7 and zeros, which no list has a part in
abbrev Counted : ℕ → Site → Type 0
Counted t s = (count_rule t s ≡ Ok tt) × Tidy t s

pub record AsRead (list : List ℕ) (k : RecordKind) (t : ℕ) (s : Site) : Type 0 where
  pub count : count_rule t s ≡ Ok tt
  pub rule : value_rule list k t s ≡ Ok tt
  pub tidy : Tidy t s

-- ---- the name and the stand

name_clean : (v : List ℕ) → take 8 (take (length v) (tabulate 8 (λ i. get_or v i 0)) ++ replicate 8 0) ≡ tabulate 8 (λ i. get_or v i 0)
name_clean v = tabulate-clean 8 (length v) 8 (λ i. get_or v i 0) 0 (omega arith) (λ i h. get_or-eq_default v 0 {n = i} h)

module _ (k : RecordKind) where
  stand_clean : (v : List ℕ) → length_permitted k 7 (length v) ≡ true
      → take 4 (take (length v / entry_width k) (tabulate 4 (λ i. entry_at k v (entry_width k * i))) ++ replicate 4 no_entry)
      ≡ tabulate 4 (λ i. entry_at k v (entry_width k * i))
  stand_clean v p =
      let w = entry_width k in
      let n = length v / w in
      tabulate-clean 4 n 4 (λ i. entry_at k v (w * i)) no_entry (omega arith)
      (λ i h. entry_past k v (w * i) (omega (arith, (stand_span k v p).0, mul-le-mul_left w h)))

  name_own : (v : List ℕ) (x : Site) → length_permitted k 1 (length v) ≡ true → Counted 1 (store k 1 v x)
  unfolding store item_count Tidy
  name_own v x p =
      let q = permitted_parts k 1 (length v) p in
      (parts_counted 1 (store k 1 v x) (omega arith) (omega arith), name_clean v)

  stand_own : (v : List ℕ) (x : Site) → length_permitted k 7 (length v) ≡ true → Counted 7 (store k 7 v x)
  unfolding store item_count Tidy
  stand_own v x p = let q = stand_span k v p in (parts_counted 7 (store k 7 v x) (omega arith) q.1, stand_clean v p)

  name_other : (u : ℕ) (v : List ℕ) (x : Site) → (u ≡ 1 → ⊥) → Counted 1 x → Counted 1 (store k u v x)
  unfolding store count_rule item_count Tidy
  name_other u v x h p = (rw (ne_eqb u 1 h) p.0, rw (ne_eqb u 1 h) p.1)

  stand_other : (u : ℕ) (v : List ℕ) (x : Site) → (u ≡ 7 → ⊥) → Counted 7 x → Counted 7 (store k u v x)
  unfolding store count_rule item_count Tidy
  stand_other u v x h p = (rw (ne_eqb u 7 h) p.0, rw (ne_eqb u 7 h) p.1)

-- ---- the laws of the field t in a record of kind k

module _ (list : List ℕ) (k : RecordKind) where
  abbrev K : Kind Site
  K = site_kind list k

  abbrev Again : ℕ → Type 0
  Again t = (s : Site) → Sized s → count_rule t s ≡ Ok tt → value_rule list k t s ≡ Ok tt → (x : Site) → field_rule K t (value k t s) x ≡ Ok tt

  pub record TagLaws (t : ℕ) : Type 0 where
    pub kept : Kept K t
    pub read : Made K (AsRead list k t) t
    pub again : Again t

  -- a field of one item, of which rule 7 holds in every site
  one_tag : (t : ℕ) → OneItem K t → ((s : Site) → Counted t s) → TagLaws t
  one_tag t one plain = record {
    kept = one.kept;
    read = record {
      own = λ v x e. record { count = (plain (store k t v x)).0; rule = (parts_passed K t v x e).1; tidy = (plain (store k t v x)).1 };
      other = λ u v x h r. record { count = (plain (store k u v x)).0; rule = one.rule u v x h r.rule; tidy = (plain (store k u v x)).1 };
    };
    again = λ s z c e. one.again s e;
  }

  -- by the table of lengths: one value of w bytes
  one-length : (t w : ℕ) → items_of k t ≡ one_value w → length_permitted k t w ≡ true → OneLength K t w
  one-length t w one ok = (λ n p. one_value_length k t n w one p, ok)

  -- a field of many items
  many_part : (t : ℕ) → Kept K t
      → ((v : List ℕ) (x : Site) → length_permitted k t (length v) ≡ true → Counted t (store k t v x))
      → ((u : ℕ) (v : List ℕ) (x : Site) → (u ≡ t → ⊥) → Counted t x → Counted t (store k u v x))
      → ((u : ℕ) (v : List ℕ) (x : Site) → (u ≡ t → ⊥) → value_rule list k t x ≡ Ok tt → value_rule list k t (store k u v x) ≡ Ok tt)
      → Again t → TagLaws t
  many_part t kept own other rule again = record {
    kept = kept;
    read = record {
      own = λ v x e. let p = own v x (parts_passed K t v x e).0 in record { count = p.0; rule = (parts_passed K t v x e).1; tidy = p.1 };
      other = λ u v x h r. let p = other u v x h (r.count, r.tidy) in record { count = p.0; rule = rule u v x h r.rule; tidy = p.1 };
    };
    again = again;
  }

  name_again : Again 1
  unfolding value value_rule store field_rule
  name_again s z c e x =
      let name = take s.name.len s.name.bytes in
      let l = name_long s z c in
      let few = name_counts s z c in
      let n8 : length name ≤ 8 = omega arith in
      rw (parts_permitted k 1 (length name) (omega arith) n8 (omega arith), take-tabulate 8 name 0 n8) e

  stand_again : Again 7
  unfolding value value_rule store field_rule
  stand_again s z c e x =
      let es = take s.stand.count s.stand.entries in
      let l = stand_long s z c in
      let few = stand_counts s z c in
      let n4 : length es ≤ 4 = omega arith in
      let t : take s.stand.count (tabulate 4 (λ i. get_or es i no_entry)) ≡ es = rw l at (take-tabulate 4 es no_entry n4) in
      let q = entries_span k s.stand.count few in
      rw (bytes_long s z c k, parts_permitted k 7 (entry_width k * s.stand.count) (omega arith) q.0 q.1, q.2, stand_back k 4 es (entries_ranged list k s e), t) e

  name_tag : TagLaws 1
  unfolding value value_rule store
  name_tag =
      many_part 1
      (record { own = λ v x p b. name_kept k v (parts_passed K 1 v x p).0; other = λ u v x h. rw (ne_eqb u 1 h) })
      (name_own k) (name_other k) (λ u v x h e. rw (ne_eqb u 1 h) e) name_again

  stand_tag : TagLaws 7
  unfolding value value_rule store
  stand_tag =
      many_part 7
      (record { own = λ v x p b. stand_kept k v (parts_passed K 7 v x p).0 b; other = λ u v x h. rw (ne_eqb u 7 h) })
      (stand_own k) (stand_other k) (λ u v x h e. rw (ne_eqb u 7 h) e) stand_again

  -- ---- all fields: a line for each tag

  -- 01 to 0F, and what follows them
  with_first_fifteen : (ts : List ℕ) → All TagLaws ts → All TagLaws (1 ∷ 2 ∷ 3 ∷ 4 ∷ 5 ∷ 6 ∷ 7 ∷ 8 ∷ 9 ∷ 10 ∷ 11 ∷ 12 ∷ 13 ∷ 14 ∷ 15 ∷ ts)
  unfolding value value_rule store count_rule item_count Tidy length_permitted
  with_first_fifteen ts more =
      name_tag
      ▸ one_tag 2 (byte_item K 2 (λ s. s.parent) (between parent_range) (one-length 2 1 refl refl) (λ s v. (refl, refl, refl)) (λ u v x h. rw (ne_eqb u 2 h))) (λ s. (refl, tt))
      ▸ one_tag 3 (pair_item K 3 (λ s. (s.clay, s.sand)) (λ b. ranged (leb (b.0 + b.1) 100)) (one-length 3 2 refl refl) (λ s v. (refl, refl, refl)) (λ u v x h. rw (ne_eqb u 3 h))) (λ s. (refl, tt))
      ▸ one_tag 4 (byte_item K 4 (λ s. s.depth) (between depth_range) (one-length 4 1 refl refl) (λ s v. (refl, refl, refl)) (λ u v x h. rw (ne_eqb u 4 h))) (λ s. (refl, tt))
      ▸ one_tag 5 (byte_item K 5 (λ s. s.drainage) (between drainage_range) (one-length 5 1 refl refl) (λ s v. (refl, refl, refl)) (λ u v x h. rw (ne_eqb u 5 h))) (λ s. (refl, tt))
      ▸ one_tag 6 (word_item K 6 (λ s. s.percolation) (between percolation_range) (one-length 6 2 refl refl) (λ s v. (refl, refl, refl)) (λ u v x h. rw (ne_eqb u 6 h))) (λ s. (refl, tt))
      ▸ stand_tag
      ▸ one_tag 8 (word_item K 8 (λ s. s.immobilisation) (between immobilisation_range) (one-length 8 2 refl refl) (λ s v. (refl, refl, refl)) (λ u v x h. rw (ne_eqb u 8 h))) (λ s. (refl, tt))
      ▸ one_tag 9 (byte_item K 9 (λ s. s.available) (between available_range) (one-length 9 1 refl refl) (λ s v. (refl, refl, refl)) (λ u v x h. rw (ne_eqb u 9 h))) (λ s. (refl, tt))
      ▸ one_tag 10 (word_item K 10 (λ s. s.base_deposition) (between base_deposition_range) (one-length 10 2 refl refl) (λ s v. (refl, refl, refl)) (λ u v x h. rw (ne_eqb u 10 h))) (λ s. (refl, tt))
      ▸ one_tag 11 (word_item K 11 (λ s. s.ratio) (between ratio_range) (one-length 11 2 refl refl) (λ s v. (refl, refl, refl)) (λ u v x h. rw (ne_eqb u 11 h))) (λ s. (refl, tt))
      ▸ one_tag 12 (word_item K 12 (λ s. s.gibbsite) (between gibbsite_range) (one-length 12 2 refl refl) (λ s v. (refl, refl, refl)) (λ u v x h. rw (ne_eqb u 12 h))) (λ s. (refl, tt))
      ▸ one_tag 13 (word_item K 13 (λ s. s.ceiling) (between ceiling_range) (one-length 13 2 refl refl) (λ s v. (refl, refl, refl)) (λ u v x h. rw (ne_eqb u 13 h))) (λ s. (refl, tt))
      ▸ one_tag 14 (word_item K 14 (λ s. s.leachate) (between leachate_range) (one-length 14 2 refl refl) (λ s v. (refl, refl, refl)) (λ u v x h. rw (ne_eqb u 14 h))) (λ s. (refl, tt))
      ▸ one_tag 15 (words_item K 15 (λ s. (s.sulphur, s.nitrogen)) (λ b. (Ok tt)) (one-length 15 4 refl refl) (λ s v. (refl, refl, refl)) (λ u v x h. rw (ne_eqb u 15 h))) (λ s. (refl, tt))
      ▸ more

  temperature_tag : TagLaws 16
  unfolding value value_rule store count_rule item_count Tidy length_permitted
  temperature_tag =
      one_tag 16 (byte_item K 16 (λ s. s.temperature) (between temperature_range) (one-length 16 1 refl refl) (λ s v. (refl, refl, refl)) (λ u v x h. rw (ne_eqb u 16 h))) (λ s. (refl, tt))

  dioxide_tag : TagLaws 17
  unfolding value value_rule store count_rule item_count Tidy length_permitted
  dioxide_tag =
      one_tag 17 (word_item K 17 (λ s. s.dioxide) (between dioxide_range) (one-length 17 2 refl refl) (λ s v. (refl, refl, refl)) (λ u v x h. rw (ne_eqb u 17 h))) (λ s. (refl, tt))

pub tags : (list : List ℕ) (k : RecordKind) → All (TagLaws list k) (due k)
tags list Tag52 = with_first_fifteen list Tag52 [] none
tags list Tag53 = with_first_fifteen list Tag53 (16 ∷ []) (temperature_tag list Tag53 ▸ none)
tags list Tag54 = with_first_fifteen list Tag54 (16 ∷ []) (temperature_tag list Tag54 ▸ none)
tags list Tag55 = with_first_fifteen list Tag55 (16 ∷ 17 ∷ []) (temperature_tag list Tag55 ▸ dioxide_tag list Tag55 ▸ none)
