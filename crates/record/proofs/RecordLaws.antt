-- Laws of a record of a file, for every kind: where the next one starts, that it is read from its own bytes alone, and both round trips.
use mathlib.Core.Path.{◌≡◌, refl, sym, ap, ◌∙◌}
use mathlib.Core.Logic.{⊎_elim}
use mathlib.Core.Bool.{Bool, true, false}
use mathlib.Core.List.{List, [], ◌∷◌, ◌++◌}
use Prim.Native.Nat.{ℕ, zero, suc, ◌+◌, ◌-◌, ◌≤◌, ◌<◌}
use native.Mathlib.Omega.{arith}
use lib.Dec.{ltb, eqb}
use lib.ListN.{length, get_or, take, drop, length-drop}
use lib.Seq.{take-nil, take_all, take-take, get_or-take, length-take-le, get_or-drop}
use borrow.Author.Tests.{ltb-false, lt-ltb, le-ltb, eqb-true, eq-eqb, ne_eqb}
use Rattle.std.specs.Prelude.{Result, Ok, Err}
use Rattle.site.specs.declared.Refusal.{Refusal}
use Rattle.site.specs.declared.Rule.{Rule}
use Rattle.site.specs.declared.Rule.TheVariants.{OuterCut, OuterTag}
use Rattle.site.specs.Refusal.{Checked, unless}
use Rattle.site.specs.Choice.{pick}
use Rattle.site.proofs.Tests.{le_or_lt}
use Rattle.site.proofs.Passing.{pass_else, pass_then}
use Rattle.record.specs.FieldParts.{field_of, stated_len, value_at}
use Rattle.field.specs.Kind.{Kind}
use Rattle.record.specs.Fields.{fields_in, encode_fields, encode_as}
use Rattle.record.specs.Records.{most_record, outer_rule, ending, record_in, only_one, single}
use Rattle.numbers.specs.TwoBytes.{AllBytes}
use Rattle.record.proofs.FieldBytes.{stated, field_length, field_first, field_value, value_bytes, field_front, length_whole}
use Rattle.site.proofs.ByCheckLaws.{unless_ok}
use Rattle.record.proofs.ResultLaws.{ending_ok}

pub drop-take : (n m : ℕ) (l : List ℕ) → drop n (take m l) ≡ take (m - n) (drop n l)
drop-take zero m l = let e : m ≡ m - zero = omega arith in ap (λ (k : ℕ). take k l) e
drop-take (suc n) zero l = let e : zero ≡ zero - suc n = omega arith in ap (λ (k : ℕ). take k (drop (suc n) l)) e
drop-take (suc n) (suc m) [] = sym (take-nil (suc m - suc n))
drop-take (suc n) (suc m) (x ∷ xs) = let e : m - n ≡ suc m - suc n = omega arith in drop-take n m xs ∙ ap (λ (k : ℕ). take k (drop n xs)) e

-- a reading that is not reached may differ
both_broken : {A : Type 0} (b : Bool) (r q : Rule) (at : ℕ) (x y : Result A Refusal) → unless (pick b (Err r) (Err q)) at x ≡ unless (pick b (Err r) (Err q)) at y
unfolding unless
both_broken true r q at x y = refl
both_broken false r q at x y = refl

-- ---- the outer field

module _ (known : ℕ → Bool) where
  -- what an outer field that passed says
  pub record OuterOk (bs : List ℕ) : Type 0 where
    pub room : 3 ≤ length bs
    pub tag : known (get_or bs 0 0) ≡ true
    pub small : stated_len bs ≤ 255
    pub inside : 3 + stated_len bs ≤ length bs

  pub outer_passed : (bs : List ℕ) → outer_rule known bs ≡ Ok tt → OuterOk bs
  unfolding outer_rule
  outer_passed bs e =
      let n = stated_len bs in
      let c4 : Checked = pick (ltb (length bs - 3) n) (Err OuterCut) (Ok tt) in
      let c3 : Checked = pick (ltb 255 n) (Err OuterCut) c4 in
      let c2 : Checked = pick (known (get_or bs 0 0)) c3 (Err OuterTag) in
      let p1 = pass_else (ltb (length bs) 3) OuterCut c2 e in
      let p2 = pass_then (known (get_or bs 0 0)) OuterTag c3 p1.1 in
      let p3 = pass_else (ltb 255 n) OuterCut c4 p2.1 in
      let p4 = pass_else (ltb (length bs - 3) n) OuterCut (Ok tt) p3.1 in
      let h : 3 ≤ length bs = ltb-false (length bs) 3 p1.0 in
      let g : n ≤ length bs - 3 = ltb-false (length bs - 3) n p4.0 in
      record { room = h; tag = p2.0; small = ltb-false 255 n p3.0; inside = omega arith }

  outer_field : (t : ℕ) (v rest : List ℕ) → known t ≡ true → length v ≤ 255 → outer_rule known (field_of t v ++ rest) ≡ Ok tt
  unfolding outer_rule
  outer_field t v rest k h =
      let bs = field_of t v ++ rest in
      let n : stated_len bs ≡ length v = stated t v rest in
      let l : length bs ≡ 3 + (length v + length rest) = field_length t v rest in
      rw (le-ltb (length bs) 3 (omega arith), field_first t v rest, k, le-ltb 255 (stated_len bs) (omega arith), le-ltb (length bs - 3) (stated_len bs) (omega arith))

  module _ (k : ℕ) (bs : List ℕ) (enough : most_record ≤ k) (long : k < length bs) where
    stated_take : stated_len (take k bs) ≡ stated_len bs
    stated_take = rw (get_or-take k bs 1 0 (omega arith), get_or-take k bs 2 0 (omega arith))

    value-take : stated_len bs ≤ 255 → value_at (take k bs) ≡ value_at bs
    value-take h = rw (stated_take, drop-take 3 k bs, take-take (stated_len bs) (k - 3) (drop 3 bs) (omega arith))

    outer_small : stated_len bs ≤ 255 → outer_rule known (take k bs) ≡ outer_rule known bs
    unfolding outer_rule
    outer_small h =
        let l : length (take k bs) ≡ k = length-take-le k bs (omega arith) in
        rw (l, stated_take, get_or-take k bs 0 0 (omega arith), le-ltb k 3 (omega arith), le-ltb (length bs) 3 (omega arith), le-ltb (k - 3) (stated_len bs) (omega arith), le-ltb (length bs - 3) (stated_len bs) (omega arith))

    outer_large : 255 < stated_len bs → (cs : List ℕ) → 3 ≤ length cs → stated_len cs ≡ stated_len bs → outer_rule known cs ≡ pick (known (get_or cs 0 0)) (Err OuterCut) (Err OuterTag)
    unfolding outer_rule
    outer_large h cs l e = rw (e, lt-ltb 255 (stated_len bs) h, le-ltb (length cs) 3 l)

module _ {A : Type 0} (known : ℕ → Bool) (kind : ℕ → Kind A) where
  -- ---- what stands past the longest record does not matter

  record_cut : (k : ℕ) (bs : List ℕ) → most_record ≤ k → k < length bs → (at : ℕ) → record_in known kind (take k bs) at ≡ record_in known kind bs at
  unfolding record_in
  record_cut k bs enough long at =
      ⊎_elim
      (λ (h : stated_len bs ≤ 255). rw (outer_small known k bs enough long h, value-take known k bs enough long h, stated_take known k bs enough long, get_or-take k bs 0 0 (omega arith)))
      (λ (h : 255 < stated_len bs).
      let l : length (take k bs) ≡ k = length-take-le k bs (omega arith) in
      rw (outer_large known k bs enough long h (take k bs) (omega arith) (stated_take known k bs enough long), outer_large known k bs enough long h bs (omega arith) refl, get_or-take k bs 0 0 (omega arith))
      (both_broken (known (get_or bs 0 0)) OuterCut OuterTag at _ _))
      (le_or_lt (stated_len bs) 255)

  record_front : (k : ℕ) (bs : List ℕ) (at : ℕ) → most_record ≤ k → record_in known kind (take k bs) at ≡ record_in known kind bs at
  record_front k bs at h =
      ⊎_elim
      (λ (short : length bs ≤ k). rw (take_all k bs short))
      (λ (long : k < length bs). record_cut k bs h long at)
      (le_or_lt (length bs) k)

  -- a file cut past the longest record has the same record there
  pub record_take : (m at : ℕ) (f : List ℕ) → at + most_record ≤ m → record_in known kind (drop at (take m f)) at ≡ record_in known kind (drop at f) at
  record_take m at f h = rw (drop-take at m f) (record_front (m - at) (drop at f) at (omega arith))

  -- ---- a record that was accepted

  pub record AcceptedAt (bs : List ℕ) (at : ℕ) (x : A × ℕ) : Type 0 where
    pub outer : OuterOk known bs
    pub walked : fields_in (kind (get_or bs 0 0)) (value_at bs) (at + 3) ≡ Ok x.0
    pub next_is : x.1 ≡ at + 3 + stated_len bs

  pub accepted_in : (bs : List ℕ) (at : ℕ) {x : A × ℕ} → record_in known kind bs at ≡ Ok x → AcceptedAt bs at x
  unfolding record_in
  accepted_in bs at e =
      let p = unless_ok (outer_rule known bs) at _ e in
      let q = ending_ok (at + 3 + stated_len bs) _ p.1 in
      record { outer = outer_passed known bs p.0; walked = q.0; next_is = q.1 }

  module _ (f : List ℕ) (at : ℕ) {x : A × ℕ} (e : record_in known kind (drop at f) at ≡ Ok x) where
    pub accepted_at : AcceptedAt (drop at f) at x
    accepted_at = accepted_in (drop at f) at e

    pub record_after : at + 3 ≤ x.1
    record_after = omega (arith, accepted_at.next_is)

    pub record_inside : x.1 ≤ length f
    record_inside = omega (arith, accepted_at.next_is, accepted_at.outer.inside, accepted_at.outer.room, length-drop at f)

    pub record_near : x.1 ≤ at + most_record
    record_near = omega (arith, accepted_at.next_is, accepted_at.outer.small)

    -- it is written again byte for byte, if its fields are
    pub record_written : AllBytes f → (K : Kind A) → kind (get_or (drop at f) 0 0) ≡ K → K.tag ≡ get_or (drop at f) 0 0
        → ((bs : List ℕ) (a : ℕ) → AllBytes bs → fields_in K bs a ≡ Ok x.0 → encode_fields K K.due x.0 ≡ bs)
        → encode_as K x.0 ≡ take (x.1 - at) (drop at f)
    unfolding encode_as
    record_written b K is tag again =
        let bs = drop at f in
        let o = accepted_at.outer in
        let c : AllBytes bs = λ i. rw get_or-drop (b (at + i)) in
        let v : encode_fields K K.due x.0 ≡ value_at bs = again (value_at bs) (at + 3) (value_bytes bs c) (rw is at accepted_at.walked) in
        let n : x.1 - at ≡ 3 + stated_len bs = omega (arith, accepted_at.next_is) in
        rw (v, n) (field_front K.tag bs c (sym tag) o.inside)

  -- ---- a record that was written is read, whatever follows it

  pub record_read : (K : Kind A) (s c : A) (rest : List ℕ) (at : ℕ) → known K.tag ≡ true → kind K.tag ≡ K → length (encode_fields K K.due s) ≤ 255
      → fields_in K (encode_fields K K.due s) (at + 3) ≡ Ok c
      → record_in known kind (encode_as K s ++ rest) at ≡ Ok (c, at + length (encode_as K s))
  unfolding record_in unless ending encode_as
  record_read K s c rest at k is small reads =
      let v = encode_fields K K.due s in
      let end : at + 3 + length v ≡ at + length (field_of K.tag v) = omega (arith, length_whole K.tag v) in
      rw (outer_field known K.tag v rest k small, field_first K.tag v rest, is, field_value K.tag v rest, reads, stated K.tag v rest, end)

-- ---- a file of at most one record

module _ {A : Type 0} where
  only_ok : (len : ℕ) (q : Result (A × ℕ) Refusal) (x : A) → only_one len q ≡ Ok x → q ≡ Ok (x, len)
  unfolding only_one
  only_ok len (Err r) x e = cc
  only_ok len (Ok y) x e = by_test (eqb y.1 len) refl _ e
    where
      by_test : (b : Bool) → eqb y.1 len ≡ b → (r : Refusal) → pick b (Ok y.0) (Err r) ≡ Ok x → ◌≡◌ {A = Result (A × ℕ) Refusal} (Ok y) (Ok (x, len))
      by_test true h r e = let p : y.0 ≡ x = cc in rw (← p, ← eqb-true y.1 len h)
      by_test false h r e = cc

  none_ok : (b : Bool) (r : Refusal) (q : Result A Refusal) {x : A} → pick b (Err r) q ≡ Ok x → q ≡ Ok x
  none_ok true r q e = cc
  none_ok false r q e = e

  pub single_ok : (read : ℕ → Result (A × ℕ) Refusal) (len : ℕ) {x : A} → single read len ≡ Ok x → read 0 ≡ Ok (x, len)
  unfolding single
  single_ok read len {x} e = only_ok len (read 0) x (none_ok (eqb len 0) _ _ e)

  pub ok_single : (read : ℕ → Result (A × ℕ) Refusal) (len : ℕ) {x : A} → 1 ≤ len → read 0 ≡ Ok (x, len) → single read len ≡ Ok x
  unfolding single only_one
  ok_single read len h e = let some : len ≡ 0 → ⊥ = λ z. omega arith in rw (ne_eqb len 0 some, e, eq-eqb len len refl)
