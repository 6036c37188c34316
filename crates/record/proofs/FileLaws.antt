-- Laws of the walk over a file, for every record reader.
use Prim.Native.Nat.{ℕ, zero, suc, ◌+◌, ◌-◌, ◌*◌, ◌≤◌, ◌<◌}
use mathlib.Core.Path.{◌≡◌, refl, sym, ap, ◌∙◌, subst}
use mathlib.Core.Logic.{⊎_elim}
use mathlib.Core.Bool.{Bool, true, false}
use mathlib.Core.List.{List, [], ◌∷◌, ◌++◌, map}
use native.Mathlib.Omega.{arith}
use borrow.Author.Tests.{le-leb, lt-leb, leb-true, leb-false, eq-eqb, ne_eqb}
use lib.Dec.{leb}
use lib.ListN.{length, take, drop, length-take, length-drop, length-append, drop_of_length-le, take-append-drop}
use lib.Seq.{drop-drop, drop_at}
use Rattle.std.specs.Prelude.{Result, Ok, Err, flat_map}
use Rattle.site.specs.Choice.{pick}
use Rattle.site.proofs.Tests.{le_or_lt}
use Rattle.site.specs.declared.Refusal.{Refusal}
use Rattle.site.specs.declared.Rule.TheVariants.{NoBytes, TooMany}
use Rattle.record.specs.File.{Contents, first, onto, walk_file, contents_by, alone}
use Rattle.record.specs.Records.{only_one, single}
use Rattle.field.proofs.All.{All, none, ◌▸◌}

-- ---- a record at a time

module _ {A : Type 0} (read : ℕ → Result (A × ℕ) Refusal) (len : ℕ) where
  pub file_end : (n at : ℕ) → len ≤ at → walk_file read len n at ≡ Ok []
  unfolding walk_file
  file_end zero at h = rw (le-leb len at h)
  file_end (suc n) at h = rw (le-leb len at h)

  pub file_full : (at : ℕ) → at < len → walk_file read len zero at ≡ Err (record { rule = TooMany; at = at })
  unfolding walk_file
  file_full at h = rw (lt-leb len at h)

  pub file_step : (n at : ℕ) → at < len → walk_file read len (suc n) at ≡ onto (read at) (walk_file read len n)
  unfolding walk_file
  file_step n at h = rw (lt-leb len at h)

  pub contents_none : (most : ℕ) → len ≤ 0 → contents_by most read len ≡ Err (record { rule = NoBytes; at = 0 })
  unfolding contents_by
  contents_none most h = rw (le-leb len 0 h)

  pub contents_some : (most : ℕ) → 0 < len → contents_by most read len ≡ walk_file read len most 0
  unfolding contents_by
  contents_some most h = rw (lt-leb len 0 h)

-- ---- a walk that passes: its end, or a record and what follows it

module _ {A : Type 0} where
  pub record Onto (q : Result (A × ℕ) Refusal) (more : ℕ → Contents A) (xs : List A) : Type 0 where
    pub found : A × ℕ
    pub rest : List A
    pub reads : q ≡ Ok found
    pub goes_on : more found.1 ≡ Ok rest
    pub is : xs ≡ found.0 ∷ rest

  onto_ok : (q : Result (A × ℕ) Refusal) (more : ℕ → Contents A) (xs : List A) → onto q more ≡ Ok xs → Onto q more xs
  unfolding onto first
  onto_ok (Err r) more xs e = cc
  onto_ok (Ok x) more xs e = by_rest (more x.1) refl e
    where
      by_rest : (c : Contents A) → more x.1 ≡ c → first x.0 c ≡ Ok xs → Onto (Ok x) more xs
      by_rest (Ok ys) m e = record { found = x; rest = ys; reads = refl; goes_on = m; is = cc }
      by_rest (Err r) m e = cc

  pick_ok : (b : Bool) {c : Contents A} {xs : List A} (P : Type 0) → pick b (Ok []) c ≡ Ok xs → (b ≡ true → [] ≡ xs → P) → (b ≡ false → c ≡ Ok xs → P) → P
  pick_ok true P e end more = end refl cc
  pick_ok false P e end more = more refl e

module _ {A : Type 0} (read : ℕ → Result (A × ℕ) Refusal) (len : ℕ) where
  -- P of the list xs that a walk gave: shown for the end, and for a record and what follows it
  pub file_by : (P : ℕ → ℕ → List A → Type 0) → ((n at : ℕ) → len ≤ at → P n at [])
      → ((n at : ℕ) (x : A × ℕ) (xs : List A) → at < len → read at ≡ Ok x → P n x.1 xs → P (suc n) at (x.0 ∷ xs))
      → (n at : ℕ) (xs : List A) → walk_file read len n at ≡ Ok xs → P n at xs
  unfolding walk_file
  file_by P end more zero at xs e =
      pick_ok (leb len at) (P zero at xs) e (λ t q. subst (P zero at) q (end zero at (leb-true len at t))) (λ t q. cc)
  file_by P end more (suc n) at xs e =
      pick_ok (leb len at) (P (suc n) at xs) e
      (λ t q. subst (P (suc n) at) q (end (suc n) at (leb-true len at t)))
      (λ t q.
      let o = onto_ok (read at) (λ after. walk_file read len n after) xs q in
      subst (P (suc n) at) (sym o.is) (more n at o.found o.rest (leb-false len at t) o.reads (file_by P end more n o.found.1 o.rest o.goes_on)))

  contents_walked : (most : ℕ) (xs : List A) → contents_by most read len ≡ Ok xs → walk_file read len most 0 ≡ Ok xs
  unfolding contents_by
  contents_walked most xs e = go (leb len 0) _ e
    where
      go : (b : Bool) (r : Refusal) → pick b (Err r) (walk_file read len most 0) ≡ Ok xs → walk_file read len most 0 ≡ Ok xs
      go true r e = cc
      go false r e = e

  -- what each record that is read has, all values have that a file holds; they are at most `most`
  pub contents_every : (P : A → Type 0) → ((at : ℕ) (x : A × ℕ) → read at ≡ Ok x → P x.0)
      → (most : ℕ) (xs : List A) → contents_by most read len ≡ Ok xs → (length xs ≤ most) × All P xs
  contents_every P each most xs e =
      file_by (λ n at xs. (length xs ≤ n) × All P xs) (λ n at h. (omega arith, none)) (λ n at x xs h r p. (omega (arith, p.0), each at x r ▸ p.1)) most 0 xs (contents_walked most xs e)

-- a reader that gives what another gave, at each value that has P, gives what it gave of a file whose values all have it
module _ {A : Type 0} (read other : ℕ → Result (A × ℕ) Refusal) (len : ℕ) (P : A → Type 0) (same : (at : ℕ) (x : A × ℕ) → read at ≡ Ok x → P x.0 → other at ≡ Ok x) where
  walked_same : (n at : ℕ) (xs : List A) → walk_file read len n at ≡ Ok xs → All P xs → walk_file other len n at ≡ Ok xs
  unfolding onto first
  walked_same =
      file_by read len (λ n at xs. All P xs → walk_file other len n at ≡ Ok xs)
      (λ n at h p. file_end other len n at h)
      (λ n at x xs h r goes_on p. file_step other len n at h ∙ by_all p (λ q qs. rw (same at x r q, goes_on qs)))
    where
      by_all : {x : A} {xs : List A} {G : Type 0} → All P (x ∷ xs) → (P x → All P xs → G) → G
      by_all (q ▸ qs) give = give q qs

  pub contents_same : (most : ℕ) (xs : List A) → contents_by most read len ≡ Ok xs → All P xs → contents_by most other len ≡ Ok xs
  unfolding contents_by
  contents_same most xs e p =
      ⊎_elim
      (λ (nothing : len ≤ 0). let bad = sym (contents_none read len most nothing) ∙ e in cc)
      (λ (some : 0 < len). contents_some other len most some ∙ walked_same most 0 xs (contents_walked read len most xs e) p)
      (le_or_lt len 0)

-- ---- the file of at most one record

module _ {A : Type 0} (read : ℕ → Result (A × ℕ) Refusal) (len : ℕ) (inside : (x : A × ℕ) → read 0 ≡ Ok x → x.1 ≤ len) where
  only_is : (q : Result (A × ℕ) Refusal) → ((x : A × ℕ) → q ≡ Ok x → x.1 ≤ len) → onto q (walk_file read len zero) ≡ alone (only_one len q)
  unfolding onto first alone only_one walk_file
  only_is (Err r) inside = refl
  only_is (Ok x) inside =
      ⊎_elim
      (λ (past : len ≤ x.1). let end : x.1 ≡ len = omega (arith, inside x refl) in rw (le-leb len x.1 past, eq-eqb x.1 len end))
      (λ (more : x.1 < len). let before : x.1 ≡ len → ⊥ = λ end. omega arith in rw (lt-leb len x.1 more, ne_eqb x.1 len before))
      (le_or_lt len x.1)

  -- it is the file of 1 to `most` records where most is 1
  pub file_of_one : contents_by 1 read len ≡ alone (single read len)
  unfolding contents_by single alone
  file_of_one =
      ⊎_elim
      (λ (nothing : len ≤ 0). let z : len ≡ 0 = omega arith in rw (le-leb len 0 nothing, eq-eqb len 0 z))
      (λ (some : 0 < len).
      let z : len ≡ 0 → ⊥ = λ e. omega arith in
      rw (lt-leb len 0 some, ne_eqb len 0 z, file_step read len 0 0 some) (only_is (read 0) inside))
      (le_or_lt len 0)

-- ---- files that go on past what the walk looks at

-- whether n bytes are there can be seen in the first m of them, for n below m
leb-take : (n m : ℕ) (f : List ℕ) → n < m → leb (length (take m f)) n ≡ leb (length f) n
leb-take n m f h = go (leb (length f) n) refl
  where
    go : (b : Bool) → leb (length f) n ≡ b → leb (length (take m f)) n ≡ leb (length f) n
    go true e = le-leb (length (take m f)) n (omega (arith, length-take m f, leb-true (length f) n e)) ∙ sym e
    go false e = lt-leb (length (take m f)) n (omega (arith, length-take m f, leb-false (length f) n e)) ∙ sym e

-- what follows a refused record does not matter
onto_same : {A : Type 0} (q : Result (A × ℕ) Refusal) (c d : ℕ → Contents A) → ((x : A × ℕ) → q ≡ Ok x → c x.1 ≡ d x.1) → onto q c ≡ onto q d
unfolding onto
onto_same (Err r) c d h = refl
onto_same (Ok x) c d h = ap (first x.0) (h x refl)

-- a reader that looks at no more than w bytes of a record, and whose records are no longer
module _ {A : Type 0} (read : List ℕ → ℕ → Result (A × ℕ) Refusal) (w : ℕ) (local : (m at : ℕ) (f : List ℕ) → at + w ≤ m → read (take m f) at ≡ read f at)
    (near : (f : List ℕ) (at : ℕ) (x : A × ℕ) → read f at ≡ Ok x → x.1 ≤ at + w) where
  file_take : (f : List ℕ) (m n at : ℕ) → at + (w * n + 1) ≤ m → walk_file (read (take m f)) (length (take m f)) n at ≡ walk_file (read f) (length f) n at
  unfolding walk_file
  file_take f m zero at h = rw (leb-take at m f (omega arith))
  file_take f m (suc n) at h =
      let s : w * suc n ≡ w * n + w = omega arith in
      let same = onto_same (read f at) (λ a. walk_file (read (take m f)) (length (take m f)) n a) (λ a. walk_file (read f) (length f) n a)
      (λ x e. file_take f m n x.1 (omega (arith, near f at x e))) in
      rw (leb-take at m f (omega arith), local m at f (omega arith), same)

  -- as many records as may come, and a byte more
  pub contents_more : (most : ℕ) (f : List ℕ) (m : ℕ) → w * most + 1 ≤ m → contents_by most (read (take m f)) (length (take m f)) ≡ contents_by most (read f) (length f)
  unfolding contents_by
  contents_more most f m h = rw (leb-take 0 m f (omega arith), file_take f m most 0 (omega arith))

-- ---- what was read is written: the file is the records of its values, one after another

module _ {A : Type 0} (read : ℕ → Result (A × ℕ) Refusal) (encode : A → List ℕ) (f : List ℕ)
    (bytes : (at : ℕ) (x : A × ℕ) → read at ≡ Ok x → (at ≤ x.1) × (encode x.0 ≡ take (x.1 - at) (drop at f))) where
  pub contents_written : (most : ℕ) (xs : List A) → contents_by most read (length f) ≡ Ok xs → f ≡ flat_map encode xs
  contents_written most xs e =
      file_by read (length f) (λ n at xs. drop at f ≡ flat_map encode xs)
      (λ n at h. drop_of_length-le f {i = at} h)
      (λ n at x xs h r p.
      let b = bytes at x r in
      let k : at + (x.1 - at) ≡ x.1 = omega (arith, b.0) in
      let d : drop (x.1 - at) (drop at f) ≡ drop x.1 f = rw (drop-drop, k) in
      sym (rw (b.1, sym p, sym d) (take-append-drop (x.1 - at) (drop at f))))
      most 0 xs (contents_walked read (length f) most xs e)

-- ---- what was written is read: values, encoded one after another

module _ {A : Type 0} (read : List ℕ → ℕ → Result (A × ℕ) Refusal) (encode : A → List ℕ) (clean : A → A) (Fit : A → Type 0)
    (some : (x : A) → 1 ≤ length (encode x))
    (reads : (x : A) → Fit x → (f : List ℕ) (at : ℕ) (rest : List ℕ) → drop at f ≡ encode x ++ rest → read f at ≡ Ok (clean x, at + length (encode x))) where
  file_read : (f : List ℕ) (xs : List A) → All Fit xs → (n at : ℕ) → length xs ≤ n → drop at f ≡ flat_map encode xs
      → walk_file (read f) (length f) n at ≡ Ok (map clean xs)
  unfolding onto first
  file_read f [] none n at l e = file_end (read f) (length f) n at (omega (arith, length-drop at f, ap length e))
  file_read f (x ∷ xs) (p ▸ ps) zero at l e = absurd (omega arith)
  file_read f (x ∷ xs) (p ▸ ps) (suc n) at l e =
      let rest = flat_map encode xs in
      let m : length (drop at f) ≡ length (encode x) + length rest = ap length e ∙ length-append (encode x) rest in
      let d : drop (at + length (encode x)) f ≡ rest = sym (drop-drop (length (encode x)) at f) ∙ rw e (drop_at (encode x) rest (length (encode x)) refl) in
      rw (file_step (read f) (length f) n at (omega (arith, length-drop at f, some x)), reads x p f at rest e, file_read f xs ps n (at + length (encode x)) (omega arith) d)

  pub contents_read : (most : ℕ) (xs : List A) → All Fit xs → 1 ≤ length xs → length xs ≤ most
      → contents_by most (read (flat_map encode xs)) (length (flat_map encode xs)) ≡ Ok (map clean xs)
  contents_read most [] ps h l = absurd (omega arith)
  contents_read most (x ∷ xs) ps h l =
      let f = encode x ++ flat_map encode xs in
      contents_some (read f) (length f) most (simp length-append (omega (arith, some x))) ∙ file_read f (x ∷ xs) ps most 0 l refl
