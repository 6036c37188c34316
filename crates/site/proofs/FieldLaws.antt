-- Laws of the check by tags.
use mathlib.Core.Path.{◌≡◌, refl, ap, ◌∙◌}
use mathlib.Core.Logic.{⊎_elim}
use Prim.Native.Nat.{ℕ, zero, suc, ◌+◌, ◌-◌, ◌≤◌, ◌<◌}
use native.Mathlib.Omega.{arith}
use lib.ListN.{length, get_or-eq_default}
use mathlib.Core.List.{List}
use Rattle.site.specs.declared.Site.{Site}
use Rattle.site.specs.declared.RecordKind.{RecordKind}
use Rattle.site.specs.Refusal.{Checked, and_then}
use Rattle.std.specs.Prelude.{Ok}
use Rattle.site.specs.Kinds.{due}
use Rattle.site.specs.Values.{count_rule, value_rule}
use Rattle.site.proofs.Tags.{tags_from, tags_more, tags_none, due_tags, first_fifteen}
use Rattle.site.specs.Check.{fields_rule, due_rule, rest_rule}
use Rattle.site.proofs.Tests.{le_or_lt}
use Rattle.site.proofs.Passing.{both_passed}

-- the field t of those from i to the last
field_passed : (list : List ℕ) (k : RecordKind) (last i t : ℕ) (n : ℕ) → n ≡ t - i → i ≤ t → t ≤ last → (s : Site) → fields_rule list k (tags_from last i) s ≡ Ok tt
    → (count_rule t s ≡ Ok tt) × (value_rule list k t s ≡ Ok tt)
unfolding fields_rule
field_passed list k last i t zero d h l s e =
    let same : i ≡ t = omega arith in
    let p = both_passed _ _ (rw (tags_more last i (omega arith)) at e) in
    rw same at (both_passed _ _ p.0)
field_passed list k last i t (suc n) d h l s e =
    let p = both_passed _ _ (rw (tags_more last i (omega arith)) at e) in
    field_passed list k last (i + 1) t n (omega arith) (omega arith) l s p.1

-- a site that passes, passes rules 7 to 10 and 16 in every field of its kind
pub due_passed : (list : List ℕ) (s : Site) → due_rule list s ≡ Ok tt → (t : ℕ) → 1 ≤ t → t ≤ length (due s.kind)
    → (count_rule t s ≡ Ok tt) × (value_rule list s.kind t s ≡ Ok tt)
unfolding due_rule
due_passed list s e t some most = field_passed list s.kind (length (due s.kind)) 1 t (t - 1) refl some most s (rw (due_tags s.kind) at e)

-- so in each of 01 to 0F
pub site_passed : (list : List ℕ) (s : Site) → due_rule list s ≡ Ok tt → (t : ℕ) → 1 ≤ t → t ≤ 15
    → (count_rule t s ≡ Ok tt) × (value_rule list s.kind t s ≡ Ok tt)
site_passed list s e t some most = due_passed list s e t some (omega (arith, first_fifteen s.kind))

-- no rule for a tag that no kind has
pub value_none : (list : List ℕ) (k : RecordKind) (t : ℕ) (s : Site) → (t < 18 → t ≡ 0) → value_rule list k t s ≡ Ok tt
unfolding value_rule
value_none list k t s h =
    ⊎_elim
    (λ (past : 18 ≤ t). rw get_or-eq_default)
    (λ below. rw (h below))
    (le_or_lt 18 t)

-- the fields from the tag t on: this one, then those after it
pub fields_next : (list : List ℕ) (k : RecordKind) (last t : ℕ) (s : Site) → t ≤ last
    → fields_rule list k (tags_from last t) s ≡ and_then (and_then (count_rule t s) (value_rule list k t s)) (fields_rule list k (tags_from last (t + 1)) s)
unfolding fields_rule
fields_next list k last t s h = rw (tags_more last t h)

-- five fields from the tag t on, then those after them
pub five_next : (list : List ℕ) (t : ℕ) (s : Site) → t + 4 ≤ length (due s.kind)
    → let f : ℕ → Checked = λ u. and_then (count_rule u s) (value_rule list s.kind u s) in
    rest_rule list t s ≡ and_then (f t) (and_then (f (t + 1)) (and_then (f (t + 2)) (and_then (f (t + 3)) (and_then (f (t + 4)) (rest_rule list (t + 5) s)))))
five_next list t s h =
    step t (t + 1) refl (omega arith)
    ∙ ap (and_then (f t)) (step (t + 1) (t + 2) (omega arith) (omega arith)
    ∙ ap (and_then (f (t + 1))) (step (t + 2) (t + 3) (omega arith) (omega arith)
    ∙ ap (and_then (f (t + 2))) (step (t + 3) (t + 4) (omega arith) (omega arith)
    ∙ ap (and_then (f (t + 3))) (step (t + 4) (t + 5) (omega arith) (omega arith)))))
  where
    f : ℕ → Checked
    f u = and_then (count_rule u s) (value_rule list s.kind u s)

    step : (u v : ℕ) → v ≡ u + 1 → u ≤ length (due s.kind) → rest_rule list u s ≡ and_then (f u) (rest_rule list v s)
    step u v e inside = rw e (fields_next list s.kind (length (due s.kind)) u s inside)

-- all the fields
pub fields_all : (list : List ℕ) (s : Site) → due_rule list s ≡ fields_rule list s.kind (tags_from (length (due s.kind)) 1) s
unfolding due_rule
fields_all list s = ap (λ ts. fields_rule list s.kind ts s) (due_tags s.kind)

pub fields_passed : (list : List ℕ) (k : RecordKind) (last t : ℕ) (s : Site) → t ≤ last → and_then (count_rule t s) (value_rule list k t s) ≡ Ok tt
    → fields_rule list k (tags_from last t) s ≡ fields_rule list k (tags_from last (t + 1)) s
unfolding and_then
fields_passed list k last t s h e = rw (fields_next list k last t s h, e)

pub fields_done : (list : List ℕ) (k : RecordKind) (last t : ℕ) (s : Site) → last < t → fields_rule list k (tags_from last t) s ≡ Ok tt
unfolding fields_rule
fields_done list k last t s h = rw (tags_none last t h)
