-- Laws of a field's bytes.
use mathlib.Core.Path.{◌≡◌, refl, sym, ap, ◌∙◌}
use mathlib.Core.Logic.{⊎_elim}
use mathlib.Core.Bool.{true}
use mathlib.Core.List.{List, ◌∷◌, ◌++◌}
use Prim.Native.Nat.{ℕ, ◌+◌, ◌/◌, ◌%◌, ◌≤◌, ◌<◌}
use native.Mathlib.Omega.{arith}
use lib.Dec.{eqb}
use lib.ListN.{length, get_or, take, drop, length-append, length-take, length-drop, take-append-drop, get_or-eq_default}
use lib.Seq.{drop-cons, take_at, drop_at, drop-drop, get_or-drop, get_or-take}
use borrow.Author.Tests.{eq-eqb}
use Rattle.site.proofs.Tests.{le_or_lt}
use Rattle.record.specs.FieldParts.{field_of, stated_len, value_at, rest_at}
use Rattle.numbers.specs.TwoBytes.{AllBytes}
use Rattle.field.proofs.EntryLaws.{word_back}

-- a field
module _ (t : ℕ) (v : List ℕ) where
  pub length_whole : length (field_of t v) ≡ 3 + length v
  unfolding field_of
  length_whole = omega arith

  -- and bytes that follow it
  module _ (rest : List ℕ) where
    pub stated : stated_len (field_of t v ++ rest) ≡ length v
    unfolding field_of
    stated = word_back (length v)

    pub field_length : length (field_of t v ++ rest) ≡ 3 + (length v + length rest)
    field_length = simp length-append (omega (arith, length_whole))

    pub field_first : get_or (field_of t v ++ rest) 0 0 ≡ t
    unfolding field_of
    field_first = refl

    pub field_tag : eqb (get_or (field_of t v ++ rest) 0 0) t ≡ true
    unfolding field_of
    field_tag = eq-eqb t t refl

    pub field_value : value_at (field_of t v ++ rest) ≡ v
    unfolding field_of
    field_value = rw stated (take_at v rest (length v) refl)

    pub field_rest : rest_at (field_of t v ++ rest) ≡ rest
    field_rest = rw stated (drop_at (field_of t v) rest (3 + length v) length_whole)

three : (bs : List ℕ) → 3 ≤ length bs → bs ≡ get_or bs 0 0 ∷ get_or bs 1 0 ∷ get_or bs 2 0 ∷ drop 3 bs
three bs h =
    let h0 : 0 < length bs = omega arith in
    let h1 : 1 < length bs = omega arith in
    let h2 : 2 < length bs = omega arith in
    drop-cons bs 0 0 h0 ∙ ap (λ (r : List ℕ). get_or bs 0 0 ∷ r) (drop-cons bs 1 0 h1 ∙ ap (λ (r : List ℕ). get_or bs 1 0 ∷ r) (drop-cons bs 2 0 h2))

take_bytes : (n : ℕ) (bs : List ℕ) → AllBytes bs → AllBytes (take n bs)
take_bytes n bs b i =
    ⊎_elim
    (λ (past : n ≤ i).
    let h : length (take n bs) ≤ i = simp length-take (omega arith) in
    rw (get_or-eq_default (take n bs) 0 {n = i} h) (omega arith))
    (λ (within : i < n). rw (get_or-take n bs i 0) (b i))
    (le_or_lt n i)

pub part_bytes : (n m : ℕ) (bs : List ℕ) → AllBytes bs → AllBytes (take n (drop m bs))
part_bytes n m bs b = take_bytes n (drop m bs) (λ i. rw get_or-drop (b (m + i)))

pub value_bytes : (bs : List ℕ) → AllBytes bs → AllBytes (value_at bs)
value_bytes bs = part_bytes (stated_len bs) 3 bs

pub rest_bytes : (bs : List ℕ) → AllBytes bs → AllBytes (rest_at bs)
rest_bytes bs b i = rw get_or-drop (b (3 + stated_len bs + i))

-- bytes that start with a field are the field of its value, and the rest
module _ (t : ℕ) (bs : List ℕ) (b : AllBytes bs) (tag : get_or bs 0 0 ≡ t) (inside : 3 + stated_len bs ≤ length bs) where
  pub field_whole : field_of t (value_at bs) ++ rest_at bs ≡ bs
  unfolding field_of
  field_whole =
      let n = stated_len bs in
      let w = value_at bs in
      let l : length w ≡ n = simp (length-take, length-drop) (omega arith) in
      let q : length w / 256 ≡ get_or bs 1 0 = omega (arith, b 2) in
      let r : length w % 256 ≡ get_or bs 2 0 = omega (arith, b 2) in
      let u : w ++ rest_at bs ≡ drop 3 bs = rw (sym (drop-drop n 3 bs), take-append-drop) in
      rw (q, r, u, sym tag) (sym (three bs (omega arith)))

  pub field_front : field_of t (value_at bs) ≡ take (3 + stated_len bs) bs
  field_front =
      let l : length (value_at bs) ≡ stated_len bs = simp (length-take, length-drop) (omega arith) in
      let k : length (field_of t (value_at bs)) ≡ 3 + stated_len bs = length_whole t (value_at bs) ∙ ap (λ (n : ℕ). 3 + n) l in
      sym (rw field_whole at (take_at (field_of t (value_at bs)) (rest_at bs) (3 + stated_len bs) k))
