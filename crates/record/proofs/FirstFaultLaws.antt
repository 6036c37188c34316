-- Reading stops at the first fault from the left: a step that is no fault is one more that is accepted.
use Prim.Native.Nat.{ℕ, zero, suc, ◌+◌, ◌*◌, ◌≤◌}
use mathlib.Core.Bool.{Bool, true, false}
use mathlib.Core.Path.{◌≡◌, refl, ap}
use mathlib.Core.Logic.{◌⊎◌, inl, inr, ⊎_elim}
use mathlib.Core.List.{List, [], ◌∷◌}
use native.Mathlib.Omega.{arith}
use native.Mathlib.Nat.{mul-le-mul_left}
use borrow.Author.Tests.{eqb-false, leb-true, leb-false}
use lib.Dec.{leb, eqb}
use lib.ListN.{get_or, length, length-take, length-drop}
use Rattle.std.specs.Prelude.{Result, Ok, Err}
use Rattle.site.specs.Choice.{pick}
use Rattle.site.specs.Refusal.{and_then, Checked, unless}
use Rattle.site.specs.declared.Refusal.{Refusal}
use Rattle.site.specs.declared.Rule.{Rule}
use Rattle.site.specs.declared.Rule.TheVariants.{InnerTag, TooMany, NoBytes}
use Rattle.field.specs.Kind.{Kind, field_rule}
use Rattle.record.specs.FieldParts.{stated_len, value_at, rest_at}
use Rattle.record.specs.Fields.{head_rule, walk_fields, fields_in}
use Rattle.record.specs.Records.{most_record, outer_rule, ending, record_in}
use Rattle.record.specs.File.{Contents, first, onto, walk_file, contents_by}
use Rattle.record.specs.FirstFault.{FieldsAccepted, none, next, FirstField, OuterBroken, InnerBroken, RecordsAccepted, RecordBroken, OneTooMany, FirstFault, Empty, FileFault}
use Rattle.record.proofs.WalkLaws.{head_passed}
use Rattle.record.proofs.RecordLaws.{outer_passed}

-- ---- the fields of a record

module _ {A : Type 0} (K : Kind A) (r : Refusal) where
  -- the fault is here
  now_due : (t : ℕ) (ts : List ℕ) (x : A) (bs : List ℕ) (start : ℕ) (k : Rule)
      → and_then (head_rule t bs) (field_rule K t (value_at bs) x) ≡ Err k → record { rule = k; at = start } ≡ r
      → FirstField K (t ∷ ts) x bs start r
  now_due t ts x bs start k b e =
      rw (← e) record { before = []; value = x; rest = bs; accepted = none; here = inl (record { tag = t; later = ts; due = refl; broken = b }) }

  -- the fault is later
  later : (t : ℕ) (ts : List ℕ) (x : A) (bs : List ℕ) (start : ℕ) → head_rule t bs ≡ Ok tt → field_rule K t (value_at bs) x ≡ Ok tt
      → FirstField K ts (K.store t (value_at bs) x) (rest_at bs) (start + (3 + stated_len bs)) r → FirstField K (t ∷ ts) x bs start r
  later t ts x bs start h p f = record {
    before = t ∷ f.before;
    value = f.value;
    rest = f.rest;
    accepted = next t h p f.accepted;
    here = ⊎_elim
        (λ d. inl (record { tag = d.tag; later = d.later; due = ap (λ us. t ∷ us) d.due; broken = d.broken }))
        (λ l. inr (record { due = ap (λ us. t ∷ us) l.due; left = l.left; broken = l.broken }))
        f.here;
  }

  pub first_field : (ts : List ℕ) (x : A) (bs : List ℕ) (start : ℕ) → walk_fields K ts x bs start ≡ Err r → FirstField K ts x bs start r
  unfolding walk_fields unless and_then
  first_field [] x bs start e = by_length (eqb (length bs) 0) refl e
    where
      by_length : (b : Bool) → eqb (length bs) 0 ≡ b → pick b (Ok x) (Err (record { rule = InnerTag; at = start })) ≡ Err r → FirstField K [] x bs start r
      by_length true q e = cc
      by_length false q e =
          let some = eqb-false (length bs) 0 q in
          let is : record { rule = InnerTag; at = start } ≡ r = cc in
          rw (← is) record { before = []; value = x; rest = bs; accepted = none; here = inr (record { due = refl; left = omega (arith, some); broken = refl }) }
  first_field (t ∷ ts) x bs start e = by_head (λ again. first_field ts _ _ _ again) (head_rule t bs) refl e
    where
      more : Result A Refusal
      more = walk_fields K ts (K.store t (value_at bs) x) (rest_at bs) (start + (3 + stated_len bs))

      Again : Type 0
      Again = more ≡ Err r → FirstField K ts (K.store t (value_at bs) x) (rest_at bs) (start + (3 + stated_len bs)) r

      by_rule : Again → head_rule t bs ≡ Ok tt → (c : Checked) → field_rule K t (value_at bs) x ≡ c → unless c start more ≡ Err r → FirstField K (t ∷ ts) x bs start r
      by_rule again h (Err k) q e = now_due t ts x bs start k (rw (h, q)) cc
      by_rule again h (Ok tt) q e = later t ts x bs start h q (again e)

      by_head : Again → (c : Checked) → head_rule t bs ≡ c → unless c start (unless (field_rule K t (value_at bs) x) start more) ≡ Err r → FirstField K (t ∷ ts) x bs start r
      by_head again (Err k) q e = now_due t ts x bs start k (rw q) cc
      by_head again (Ok tt) q e = by_rule again q (field_rule K t (value_at bs) x) refl e

-- ---- the record at the front of some bytes

module _ {A : Type 0} (known : ℕ → Bool) (kind : ℕ → Kind A) (bs : List ℕ) (start : ℕ) (r : Refusal) where
  ending_err : (end : ℕ) (q : Result A Refusal) → ending end q ≡ Err r → q ≡ Err r
  unfolding ending
  ending_err end (Ok x) e = cc
  ending_err end (Err k) e = cc

  pub first_in_record : record_in known kind bs start ≡ Err r → OuterBroken known bs start r ⊎ InnerBroken known (kind (get_or bs 0 0)) bs start r
  unfolding record_in unless
  first_in_record e = by_outer (outer_rule known bs) refl e
    where
      inside : Result (A × ℕ) Refusal
      inside = ending (start + 3 + stated_len bs) (fields_in (kind (get_or bs 0 0)) (value_at bs) (start + 3))

      by_outer : (c : Checked) → outer_rule known bs ≡ c → unless c start inside ≡ Err r → OuterBroken known bs start r ⊎ InnerBroken known (kind (get_or bs 0 0)) bs start r
      by_outer (Err k) q e = let is : record { rule = k; at = start } ≡ r = cc in inl (rw (← is) record { broken = q; offset = refl })
      by_outer (Ok tt) q e = inr (record { outer = q; inner = first_field (kind (get_or bs 0 0)) r _ _ (value_at bs) (start + 3) (ending_err _ _ e) })

-- ---- a file

module _ {A : Type 0} (read : ℕ → Result (A × ℕ) Refusal) (len : ℕ) (r : Refusal) where
  first_in_walk : (most from : ℕ) → walk_file read len most from ≡ Err r → FirstFault read len most from r
  unfolding walk_file onto first
  first_in_walk zero from e = by_end (leb len from) refl e
    where
      by_end : (b : Bool) → leb len from ≡ b → ◌≡◌ {A = Contents A} (pick b (Ok []) (Err (record { rule = TooMany; at = from }))) (Err r) → FirstFault read len zero from r
      by_end true q e = cc
      by_end false q e =
          let is : record { rule = TooMany; at = from } ≡ r = cc in
          rw (← is) record {
            before = [];
            start = from;
            accepted = none;
            left = leb-false len from q;
            here = inr (record { many = refl; broken = refl; offset = refl });
          }
  first_in_walk (suc most) from e = by_end (λ at again. first_in_walk most at again) (leb len from) refl e
    where
      Again : Type 0
      Again = (from : ℕ) → walk_file read len most from ≡ Err r → FirstFault read len most from r

      by_rest : Again → (x : A × ℕ) → read from ≡ Ok x → (c : Contents A) → walk_file read len most x.1 ≡ c → first x.0 c ≡ Err r → FirstFault read len (suc most) from r
      by_rest again x p (Ok xs) q e = cc
      by_rest again x p (Err k) q e =
          let f = again x.1 cc in
          record {
            before = x.0 ∷ f.before;
            start = f.start;
            accepted = next x p f.accepted;
            left = f.left;
            here = ⊎_elim
                (λ b. inl (record { few = omega (arith, b.few); broken = b.broken }))
                (λ m. inr (record { many = omega (arith, m.many); broken = m.broken; offset = m.offset }))
                f.here;
          }

      by_record : Again → leb len from ≡ false → (q : Result (A × ℕ) Refusal) → read from ≡ q → onto q (walk_file read len most) ≡ Err r → FirstFault read len (suc most) from r
      by_record again l (Err k) p e = record {
        before = [];
        start = from;
        accepted = none;
        left = leb-false len from l;
        here = inl (record { few = omega arith; broken = cc });
      }
      by_record again l (Ok x) p e = by_rest again x p (walk_file read len most x.1) refl e

      by_end : Again → (b : Bool) → leb len from ≡ b → pick b (Ok []) (onto (read from) (walk_file read len most)) ≡ Err r → FirstFault read len (suc most) from r
      by_end again true q e = cc
      by_end again false q e = by_record again q (read from) refl e

  -- no bytes, or the first fault from the left
  pub first_in_file : (most : ℕ) → contents_by most read len ≡ Err r → FileFault read len most r
  unfolding contents_by
  first_in_file most e = by_length (leb len 0) refl e
    where
      by_length : (b : Bool) → leb len 0 ≡ b → pick b (Err (record { rule = NoBytes; at = 0 })) (walk_file read len most 0) ≡ Err r → FileFault read len most r
      by_length true q e =
          let is : record { rule = NoBytes; at = 0 } ≡ r = cc in
          inl (rw (← is) record { nothing = omega (arith, leb-true len 0 q); broken = refl; offset = refl })
      by_length false q e = inr (first_in_walk most 0 e)

-- ---- where a fault can lie

module _ {A : Type 0} (K : Kind A) where
  taken-length : {x y : A} {bs cs ts : List ℕ} {at end : ℕ} → FieldsAccepted K x bs at ts y cs end → end + length cs ≡ at + length bs
  taken-length none = refl
  taken-length {bs = bs} (next t h p more) =
      omega (arith, taken-length more, length-drop (3 + stated_len bs) bs, (head_passed t bs h).inside)

-- no fault of a record lies past its end
pub record_fault_near : {A : Type 0} (known : ℕ → Bool) (kind : ℕ → Kind A) (bs : List ℕ) (start : ℕ) {r : Refusal}
    → record_in known kind bs start ≡ Err r → r.at ≤ start + most_record
record_fault_near known kind bs start {r} e =
    ⊎_elim
    (λ (o : OuterBroken known bs start r). omega (arith, o.offset))
    (λ (i : InnerBroken known (kind (get_or bs 0 0)) bs start r).
    let small : length (value_at bs) ≤ stated_len bs = simp length-take (omega arith) in
    omega (arith, taken-length _ i.inner.accepted, small, (outer_passed known bs i.outer).small))
    (first_in_record known kind bs start r e)

module _ {A : Type 0} (read : ℕ → Result (A × ℕ) Refusal) (w : ℕ) (near : (at : ℕ) (x : A × ℕ) → read at ≡ Ok x → x.1 ≤ at + w) where
  through_near : {from to : ℕ} {xs : List A} → RecordsAccepted read from xs to → to ≤ from + w * length xs
  through_near none = omega arith
  through_near {from} {to} (next {xs = xs} x r more) =
      let step : w * suc (length xs) ≡ w + w * length xs = omega arith in
      omega (arith, through_near more, near from x r, step)

  -- no fault of a file lies past its records of the greatest length
  pub file_fault_near : ((at : ℕ) (r : Refusal) → read at ≡ Err r → r.at ≤ at + w) → (len most : ℕ) {r : Refusal}
      → contents_by most read len ≡ Err r → r.at ≤ w * most
  file_fault_near faulty len most {r} e =
      ⊎_elim
      (λ (none : Empty len r). omega (arith, none.offset))
      (λ (f : FirstFault read len most 0 r).
      let start = through_near f.accepted in
      ⊎_elim
      (λ (b : RecordBroken read most f.before f.start r).
      let in_all : w * suc (length f.before) ≤ w * most = mul-le-mul_left w b.few in
      let step : w * suc (length f.before) ≡ w + w * length f.before = omega arith in
      omega (arith, start, faulty f.start r b.broken, in_all, step))
      (λ (m : OneTooMany most f.before f.start r).
      let in_all : w * length f.before ≡ w * most = rw m.many in
      omega (arith, start, m.offset, in_all))
      f.here)
      (first_in_file read len r most e)
