-- Laws of the entries' bytes, by the width of a species number.
use mathlib.Core.Path.{◌≡◌, refl, sym, ◌∙◌}
use mathlib.Core.Bool.{Bool, true, false, ◌&&◌, ◌||◌, false≢true}
use mathlib.Core.List.{List, [], ◌∷◌, ◌++◌}
use Prim.Native.Nat.{ℕ, zero, suc, ◌+◌, ◌*◌, ◌/◌, ◌%◌, ◌≤◌, ◌<◌}
use native.Mathlib.Nat.{add_assoc, le_of_suc-le-suc, not-suc-le-zero, mul-zero, mul-suc, mod-eq_of_lt}
use native.Mathlib.Omega.{arith}
use lib.Dec.{leb}
use lib.ListN.{length, get_or, take, drop, length-append, length-drop, take-append-drop}
use lib.Seq.{get_or-drop, drop_at}
use borrow.Author.Tests.{leb-true}
use Rattle.std.specs.List.{list_all}
use Rattle.site.specs.declared.Entry.{Entry}
use Rattle.site.specs.declared.RecordKind.{RecordKind}
use Rattle.site.specs.Bounds.{no_entry}
use Rattle.site.specs.Choice.{pick}
use Rattle.site.specs.Kinds.{two_byte_species, entry_width}
use Rattle.site.specs.Ranges.{most_species, listed_range, share_range, most_yield}
use Rattle.site.specs.Values.{inside, species_ranged, entry_ranged}
use Rattle.site.proofs.EntryPast.{entry_past}
use Rattle.site.proofs.Tests.{and_l, and_r}
use Rattle.numbers.specs.TwoBytes.{word_of, word_at, word_bytes, AllBytes}
use Rattle.site.specs.Bytes.{tabulate, narrow_entry, wide_entry, entry_at}
use Rattle.field.specs.Field.{entry_bytes, entries_bytes}
use Rattle.field.proofs.TabulateLaws.{tabulate_cong, tabulate_front}

pub word_back : (y : ℕ) → word_of (y / 256) (y % 256) ≡ y
word_back y = omega arith

-- the bytes of a number are those that it was read from
pub word_hi : (v : List ℕ) (i : ℕ) → AllBytes v → word_at v i / 256 ≡ get_or v i 0
word_hi v i b = omega (arith, b (i + 1))

pub word_lo : (v : List ℕ) (i : ℕ) → AllBytes v → word_at v i % 256 ≡ get_or v (i + 1) 0
word_lo v i b = omega (arith, b (i + 1))

pub no_length : (bs : List ℕ) → length bs ≡ 0 → bs ≡ []
no_length [] e = refl
no_length (x ∷ bs) e = absurd (omega arith)

-- ---- the count of entries in n bytes

pub counted : (k : RecordKind) (n : ℕ) → n ≤ entry_width k * 4 → n % entry_width k ≡ 0
    → (entry_width k * (n / entry_width k) ≡ n) × (n / entry_width k ≤ 4)
counted k n most whole = by_width (two_byte_species k) most whole
  where
    by_width : (wide : Bool) → n ≤ pick wide 5 4 * 4 → n % pick wide 5 4 ≡ 0
        → (pick wide 5 4 * (n / pick wide 5 4) ≡ n) × (n / pick wide 5 4 ≤ 4)
    by_width true m w = (omega arith, omega arith)
    by_width false m w = (omega arith, omega arith)

-- the bytes of n entries, at most 4
pub entries_span : (k : RecordKind) (n : ℕ) → n ≤ 4
    → (entry_width k * n ≤ entry_width k * 4) × (entry_width k * n % entry_width k ≡ 0) × (entry_width k * n / entry_width k ≡ n)
entries_span k n most = by_width (two_byte_species k)
  where
    by_width : (wide : Bool)
        → (pick wide 5 4 * n ≤ pick wide 5 4 * 4) × (pick wide 5 4 * n % pick wide 5 4 ≡ 0) × (pick wide 5 4 * n / pick wide 5 4 ≡ n)
    by_width true = (omega arith, omega arith, omega arith)
    by_width false = (omega arith, omega arith, omega arith)

-- ---- one entry

module _ (k : RecordKind) where
  entry_long : (e : Entry) → length (entry_bytes k e) ≡ entry_width k
  unfolding entry_bytes
  entry_long e = by_width (two_byte_species k)
    where
      by_width : (wide : Bool) → length (pick wide (word_bytes e.species) (e.species % 256 ∷ []) ++ e.share ∷ word_bytes e.yield_kg) ≡ pick wide 5 4
      by_width true = refl
      by_width false = refl

  -- past the first n bytes
  entry_drop : (v : List ℕ) (n i : ℕ) → entry_at k v (n + i) ≡ entry_at k (drop n v) i
  unfolding entry_at
  entry_drop v n i = by_width (two_byte_species k)
    where
      by_width : (wide : Bool) → pick wide (wide_entry v (n + i)) (narrow_entry v (n + i)) ≡ pick wide (wide_entry (drop n v) i) (narrow_entry (drop n v) i)
      by_width true = simp (get_or-drop, add_assoc)
      by_width false = simp (get_or-drop, add_assoc)

  -- an entry is read from its bytes
  entry_first : (e : Entry) (v : List ℕ) → entry_ranged k e ≡ true → entry_at k (entry_bytes k e ++ v) 0 ≡ e
  unfolding entry_at entry_bytes entry_ranged
  entry_first e v p =
      by_width (two_byte_species k)
      (and_l (species_ranged k e.species) (inside share_range e.share) (and_l (species_ranged k e.species && inside share_range e.share) (leb e.yield_kg most_yield) p))
    where
      one_byte : (few : Bool) → leb e.species most_species ≡ few → few || false ≡ true → e.species < 256
      one_byte true t r = omega (arith, leb-true e.species most_species t)
      one_byte false t r = absurd (false≢true r)

      bytes : Bool → List ℕ
      bytes wide = (pick wide (word_bytes e.species) (e.species % 256 ∷ []) ++ e.share ∷ word_bytes e.yield_kg) ++ v

      by_width : (wide : Bool) → leb e.species most_species || wide && inside listed_range e.species ≡ true
          → pick wide (wide_entry (bytes wide) 0) (narrow_entry (bytes wide) 0) ≡ e
      by_width true r = rw (word_back e.species, word_back e.yield_kg)
      by_width false r =
          let one : e.species % 256 ≡ e.species = mod-eq_of_lt (one_byte (leb e.species most_species) refl r) in
          rw (one, word_back e.yield_kg)

  -- and its bytes are those that it was read from
  entry_kept : (v : List ℕ) → entry_width k ≤ length v → AllBytes v → entry_bytes k (entry_at k v 0) ≡ take (entry_width k) v
  unfolding entry_at entry_bytes tabulate
  entry_kept v long b = by_width (two_byte_species k) long
    where
      first : Bool → Entry
      first wide = pick wide (wide_entry v 0) (narrow_entry v 0)

      by_width : (wide : Bool) → pick wide 5 4 ≤ length v
          → pick wide (word_bytes (first wide).species) ((first wide).species % 256 ∷ []) ++ (first wide).share ∷ word_bytes (first wide).yield_kg ≡ take (pick wide 5 4) v
      by_width true l = rw (word_hi v 0 b, word_lo v 0 b, word_hi v 3 b, word_lo v 3 b) (tabulate_front 5 v 0 l)
      by_width false l =
          let one : get_or v 0 0 % 256 ≡ get_or v 0 0 = mod-eq_of_lt (b 0) in
          rw (one, word_hi v 2 b, word_lo v 2 b) (tabulate_front 4 v 0 l)

  -- ---- all of them

  pub length_entries : (es : List Entry) → length (entries_bytes k es) ≡ entry_width k * length es
  unfolding entries_bytes
  length_entries [] = sym (mul-zero (entry_width k))
  length_entries (e ∷ es) = rw (length-append (entry_bytes k e) (entries_bytes k es), entry_long e, length_entries es, mul-suc) (omega arith)

  entry_next : (v : List ℕ) (i : ℕ) → entry_at k v (entry_width k * suc i) ≡ entry_at k (drop (entry_width k) v) (entry_width k * i)
  entry_next v i = let e : entry_width k * suc i ≡ entry_width k + entry_width k * i = rw mul-suc (omega arith) in rw e (entry_drop v (entry_width k) (entry_width k * i))

  entry_back : (es : List Entry) → list_all (entry_ranged k) es ≡ true → (i : ℕ) → entry_at k (entries_bytes k es) (entry_width k * i) ≡ get_or es i no_entry
  unfolding entries_bytes
  entry_back [] p i = entry_past k [] (entry_width k * i) (omega arith)
  entry_back (e ∷ es) p zero = rw mul-zero (entry_first e (entries_bytes k es) (and_l (entry_ranged k e) (list_all (entry_ranged k) es) p))
  entry_back (e ∷ es) p (suc i) =
      entry_next (entry_bytes k e ++ entries_bytes k es) i
      ∙ rw (drop_at (entry_bytes k e) (entries_bytes k es) (entry_width k) (entry_long e)) (entry_back es (and_r (entry_ranged k e) (list_all (entry_ranged k) es) p) i)

  pub stand_back : (n : ℕ) (es : List Entry) → list_all (entry_ranged k) es ≡ true
      → tabulate n (λ i. entry_at k (entries_bytes k es) (entry_width k * i)) ≡ tabulate n (λ i. get_or es i no_entry)
  stand_back n es p = tabulate_cong n _ _ (entry_back es p)

  -- the bytes are those of the entries that were read from them
  pub entries_back : (n m : ℕ) (v : List ℕ) → n ≤ m → length v ≡ entry_width k * n → AllBytes v
      → entries_bytes k (take n (tabulate m (λ i. entry_at k v (entry_width k * i)))) ≡ v
  unfolding entries_bytes tabulate
  entries_back zero m v h l b = sym (no_length v (rw mul-zero at l))
  entries_back (suc n) zero v h l b = absurd (not-suc-le-zero h)
  entries_back (suc n) (suc m) v h l b =
      let w = entry_width k in
      let long : length v ≡ w * n + w = rw mul-suc at l in
      let rest = entries_back n m (drop w v) (le_of_suc-le-suc h) (omega (arith, length-drop w v)) (λ i. rw get_or-drop (b (w + i))) in
      rw (mul-zero, entry_kept v (omega arith) b, tabulate_cong m _ _ (entry_next v), rest) (take-append-drop w v)
