-- Laws of the walk over the fields of a record, for every kind.
use mathlib.Core.Path.{◌≡◌, refl, sym, ap, ◌∙◌}
use mathlib.Core.Bool.{Bool, true, false}
use mathlib.Core.List.{List, [], ◌∷◌, ◌++◌}
use Prim.Native.Nat.{ℕ, ◌+◌, ◌-◌, ◌≤◌, ◌<◌}
use native.Mathlib.Nat.{add-sub_cancel_left}
use native.Mathlib.Omega.{arith}
use native.Mathlib.Numerals.{add-one}
use lib.Dec.{ltb, eqb}
use lib.ListN.{length, get_or, take, drop, length-drop, drop_of_length-le}
use lib.Seq.{drop-cons, take_all}
use borrow.Author.Tests.{eqb-true, ltb-false, ne_eqb, le-ltb}
use Rattle.std.specs.Prelude.{Ok, Err}
use Rattle.site.specs.declared.Site.{Site}
use Rattle.site.specs.declared.Refusal.{Refusal}
use Rattle.site.specs.declared.Rule.{Rule}
use Rattle.site.specs.declared.Rule.TheVariants.{InnerCut, InnerTag}
use Rattle.site.specs.Refusal.{Checked, unless}
use Rattle.site.specs.Choice.{pick}
use Rattle.field.specs.Field.{taken, blank_of, site_kind}
use Rattle.field.proofs.TakenLaws.{taken_ok}
use Rattle.site.proofs.Passing.{pass_else, pass_then}
use Rattle.record.specs.FieldParts.{stated_len, value_at, rest_at, field_of}
use Rattle.field.specs.Kind.{Kind, field_rule}
use Rattle.record.specs.Fields.{head_rule, walk_fields, fields_in}
use Rattle.record.proofs.FieldBytes.{stated, field_length, field_tag}
use Rattle.site.proofs.ByCheckLaws.{unless_ok}
use Rattle.site.proofs.Tags.{tags_from, tags_more, tags_none, due_tags}
use Rattle.site.specs.declared.RecordKind.{RecordKind}
use Rattle.site.specs.Kinds.{due}

-- ---- the head of a field

-- what a head that passed says
pub record HeadOk (t : ℕ) (bs : List ℕ) : Type 0 where
  pub room : 3 ≤ length bs
  pub tag : get_or bs 0 0 ≡ t
  pub inside : 3 + stated_len bs ≤ length bs

pub head_passed : (t : ℕ) (bs : List ℕ) → head_rule t bs ≡ Ok tt → HeadOk t bs
unfolding head_rule
head_passed t bs e =
    let n = stated_len bs in
    let c4 : Checked = pick (ltb (length bs - 3) n) (Err InnerCut) (Ok tt) in
    let c3 : Checked = pick (eqb (get_or bs 0 0) t) c4 (Err InnerTag) in
    let c2 : Checked = pick (ltb (length bs) 3) (Err InnerCut) c3 in
    let p1 = pass_else (eqb (length bs) 0) InnerTag c2 e in
    let p2 = pass_else (ltb (length bs) 3) InnerCut c3 p1.1 in
    let p3 = pass_then (eqb (get_or bs 0 0) t) InnerTag c4 p2.1 in
    let p4 = pass_else (ltb (length bs - 3) n) InnerCut (Ok tt) p3.1 in
    let h : 3 ≤ length bs = ltb-false (length bs) 3 p2.0 in
    let g : stated_len bs ≤ length bs - 3 = ltb-false (length bs - 3) (stated_len bs) p4.0 in
    record { room = h; tag = eqb-true (get_or bs 0 0) t p3.0; inside = omega arith }

-- the head of a whole field passes
pub head_field : (t : ℕ) (v rest : List ℕ) → head_rule t (field_of t v ++ rest) ≡ Ok tt
unfolding head_rule
head_field t v rest =
    let bs = field_of t v ++ rest in
    let l = field_length t v rest in
    let n = stated t v rest in
    let h0 : length bs ≡ 0 → ⊥ = λ e. omega arith in
    let h1 : 3 ≤ length bs = omega arith in
    let h2 : stated_len bs ≤ length bs - 3 = omega arith in
    rw (ne_eqb _ _ h0, le-ltb _ _ h1, field_tag t v rest, le-ltb _ _ h2)

pub rest_all : (l : List ℕ) (e : ℕ) → take (length l - e) (drop e l) ≡ drop e l
rest_all l e = take_all (length l - e) (drop e l) (simp length-drop (omega arith))

module _ {A : Type 0} (K : Kind A) where
  -- ---- a step of the walk, at due tag k

  module _ (ds : List ℕ) (k : ℕ) (inside : k < length ds) (x : A) (bs : List ℕ) (at : ℕ) where
    pub walk_head : (r : Rule) → head_rule (get_or ds k 0) bs ≡ Err r → walk_fields K (drop k ds) x bs at ≡ Err (record { rule = r; at = at })
    unfolding walk_fields unless
    walk_head r e = rw (drop-cons ds k 0, e)

    module _ (ok : head_rule (get_or ds k 0) bs ≡ Ok tt) where
      pub walk_value : (r : Rule) → field_rule K (get_or ds k 0) (value_at bs) x ≡ Err r → walk_fields K (drop k ds) x bs at ≡ Err (record { rule = r; at = at })
      unfolding walk_fields unless
      walk_value r e = rw (drop-cons ds k 0, ok, e)

      pub walk_next : field_rule K (get_or ds k 0) (value_at bs) x ≡ Ok tt → (y : A) → y ≡ K.store (get_or ds k 0) (value_at bs) x
          → (end : ℕ) → end ≡ 3 + stated_len bs
          → walk_fields K (drop k ds) x bs at ≡ walk_fields K (drop (k + 1) ds) y (take (length bs - end) (drop end bs)) (at + end)
      unfolding walk_fields unless
      walk_next e y is end is_end = rw (drop-cons ds k 0, ok, e, is, rest_all, is_end, add-one k)

  -- ---- the end of the walk: no tag is due

  module _ (ds : List ℕ) (k : ℕ) (x : A) (bs : List ℕ) (at : ℕ) (past : length ds ≤ k) where
    pub walk_done : length bs ≡ 0 → walk_fields K (drop k ds) x bs at ≡ Ok x
    unfolding walk_fields
    walk_done e = let q : drop k ds ≡ [] = drop_of_length-le ds {i = k} past in rw (q, e)

    pub walk_more : (length bs ≡ 0 → ⊥) → walk_fields K (drop k ds) x bs at ≡ Err (record { rule = InnerTag; at = at })
    unfolding walk_fields
    walk_more e = let q : drop k ds ≡ [] = drop_of_length-le ds {i = k} past in rw (q, ne_eqb _ _ e)

  -- ---- what an accepted walk was

  end_ok : (b : Bool) (x s : A) (r : Refusal) → pick b (Ok x) (Err r) ≡ Ok s → (b ≡ true) × (x ≡ s)
  end_ok true x s r e = (refl, cc)
  end_ok false x s r e = cc

  pub walk_none : (x s : A) (bs : List ℕ) (at : ℕ) → walk_fields K [] x bs at ≡ Ok s → (x ≡ s) × (length bs ≡ 0)
  unfolding walk_fields
  walk_none x s bs at e =
      let p = end_ok (eqb (length bs) 0) x s _ e in
      (p.1, eqb-true (length bs) 0 p.0)

  pub record FieldStep (t : ℕ) (ts : List ℕ) (x s : A) (bs : List ℕ) (at : ℕ) : Type 0 where
    pub head : HeadOk t bs
    pub passed : field_rule K t (value_at bs) x ≡ Ok tt
    pub more : walk_fields K ts (K.store t (value_at bs) x) (rest_at bs) (at + (3 + stated_len bs)) ≡ Ok s

  pub walk_some : (t : ℕ) (ts : List ℕ) (x s : A) (bs : List ℕ) (at : ℕ) → walk_fields K (t ∷ ts) x bs at ≡ Ok s → FieldStep t ts x s bs at
  unfolding walk_fields
  walk_some t ts x s bs at e =
      let p = unless_ok (head_rule t bs) at _ e in
      let q = unless_ok (field_rule K t (value_at bs) x) at _ p.1 in
      record { head = head_passed t bs p.0; passed = q.0; more = q.1 }

-- ---- a step of the walk over a site of kind k, at the tag t of a loop that ends with `last`: the value as the code takes it

module _ (list : List ℕ) (k : RecordKind) (last : ℕ) (s : Site) (bs : List ℕ) (at : ℕ) where
  module _ (t : ℕ) (inside : t ≤ last) where
    abbrev ds : List ℕ
    ds = t ∷ tags_from last (t + 1)

    pub tag_head : (r : Rule) → head_rule t bs ≡ Err r → walk_fields (site_kind list k) (tags_from last t) s bs at ≡ Err (record { rule = r; at = at })
    tag_head r e = rw (tags_more last t inside) (walk_head (site_kind list k) ds 0 (omega arith) s bs at r e)

    module _ (ok : head_rule t bs ≡ Ok tt) (end : ℕ) (is_end : end ≡ 3 + stated_len bs) (of : s.kind ≡ k) where
      abbrev v : List ℕ
      v = take (end - 3) (drop 3 bs)

      value_is : v ≡ value_at bs
      value_is = rw (is_end, add-sub_cancel_left)

      at_kind : (c : Checked) → field_rule (site_kind list s.kind) t v s ≡ c → field_rule (site_kind list k) t (value_at bs) s ≡ c
      at_kind c e = rw value_is at (sym (ap (λ j. field_rule (site_kind list j) t v s) of) ∙ e)

      pub tag_value : (r : Rule) → field_rule (site_kind list s.kind) t v s ≡ Err r
          → walk_fields (site_kind list k) (tags_from last t) s bs at ≡ Err (record { rule = r; at = at })
      tag_value r e = rw (tags_more last t inside) (walk_value (site_kind list k) ds 0 (omega arith) s bs at ok r (at_kind (Err r) e))

      pub tag_next : field_rule (site_kind list s.kind) t v s ≡ Ok tt
          → walk_fields (site_kind list k) (tags_from last t) s bs at
          ≡ walk_fields (site_kind list k) (tags_from last (t + 1)) (taken s.kind t v s) (take (length bs - end) (drop end bs)) (at + end)
      tag_next e =
          let passed = at_kind (Ok tt) e in
          let is : taken s.kind t v s ≡ (site_kind list k).store t (value_at bs) s = ap (λ j. taken j t v s) of ∙ rw value_is (taken_ok list t (value_at bs) s k passed) in
          rw (tags_more last t inside) (walk_next (site_kind list k) ds 0 (omega arith) s bs at ok passed (taken s.kind t v s) is end is_end)

  -- the end: no tag is due
  pub tag_none : (t : ℕ) → last < t → walk_fields (site_kind list k) (tags_from last t) s bs at ≡ pick (eqb (length bs) 0) (Ok s) (Err (record { rule = InnerTag; at = at }))
  unfolding walk_fields
  tag_none t past = rw (tags_none last t past)

-- all the fields of the kind
pub tag_first : (list : List ℕ) (k : RecordKind) (bs : List ℕ) (at : ℕ)
    → fields_in (site_kind list k) bs at ≡ walk_fields (site_kind list k) (tags_from (length (due k)) 1) (blank_of k) bs at
tag_first list k bs at = ap (λ ts. walk_fields (site_kind list k) ts (blank_of k) bs at) (due_tags k)
