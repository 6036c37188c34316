-- No rule of an outer field, or of a field inside it, is 21.
use Prim.Native.Nat.{ℕ, ◌-◌}
use mathlib.Core.Path.{◌≡◌, refl, sym, ap, ◌∙◌}
use mathlib.Core.Bool.{Bool, true, false, not, false≢true}
use mathlib.Core.Logic.{⊎_elim}
use mathlib.Core.List.{List}
use borrow.Author.Tests.{eqb-true}
use lib.Dec.{eqb, ltb}
use lib.ListN.{length, get_or, drop}
use Rattle.std.specs.Prelude.{Ok, Err}
use Rattle.site.specs.Choice.{pick}
use Rattle.site.specs.Values.{length_permitted}
use Rattle.site.specs.Refusal.{Checked, rule_number, and_then}
use Rattle.site.specs.declared.RecordKind.{RecordKind}
use Rattle.site.specs.declared.Refusal.{Refusal}
use Rattle.site.specs.declared.Rule.TheVariants.{LoadBelowZero}
use Rattle.site.specs.declared.Site.{Site}
use Rattle.site.proofs.NumberLaws.{known, known_value}
use Rattle.field.specs.Field.{store, site_kind}
use Rattle.field.specs.Kind.{field_rule}
use Rattle.record.specs.FieldParts.{stated_len}
use Rattle.record.specs.Fields.{head_rule}
use Rattle.record.specs.Records.{outer_rule}
use Rattle.record.specs.Outer.{known_to, site_kinds, fields_at}
use Rattle.record.proofs.FirstFaultLaws.{first_in_record}

-- a test of the rule, which holds of every branch
unfoldable spared : Checked → Bool
spared (Ok tt) = true
spared (Err r) = not (eqb (rule_number r) 21)

spared_pick : (t : Bool) (a b : Checked) → spared a ≡ true → spared b ≡ true → spared (pick t a b) ≡ true
spared_pick true a b p q = p
spared_pick false a b p q = q

spared_then : (a b : Checked) → spared a ≡ true → spared b ≡ true → spared (and_then a b) ≡ true
unfolding and_then
spared_then (Ok tt) b p q = q
spared_then (Err r) b p q = p

known_spared : (c : Checked) → known c ≡ true → spared c ≡ true
unfolding known spared
known_spared (Ok tt) e = refl
known_spared (Err r) e = by_test (eqb (rule_number r) 21) refl
  where
    by_test : (b : Bool) → eqb (rule_number r) 21 ≡ b → not b ≡ true
    by_test false q = refl
    by_test true q = absurd (false≢true (rw (eqb-true (rule_number r) 21 q) at e))

spared_outer : (known : ℕ → Bool) (bs : List ℕ) → spared (outer_rule known bs) ≡ true
unfolding outer_rule spared
spared_outer known bs =
    spared_pick (ltb (length bs) 3) _ _ refl
    (spared_pick (known (get_or bs 0 0)) _ _ (spared_pick (ltb 255 (stated_len bs)) _ _ refl (spared_pick (ltb (length bs - 3) (stated_len bs)) _ _ refl refl)) refl)

spared_head : (t : ℕ) (bs : List ℕ) → spared (head_rule t bs) ≡ true
unfolding head_rule spared
spared_head t bs =
    spared_pick (eqb (length bs) 0) _ _ refl
    (spared_pick (ltb (length bs) 3) _ _ refl (spared_pick (eqb (get_or bs 0 0) t) _ _ (spared_pick (ltb (length bs - 3) (stated_len bs)) _ _ refl refl) refl))

spared_field : (list : List ℕ) (k : RecordKind) (t : ℕ) (v : List ℕ) (x : Site) → spared (field_rule (site_kind list k) t v x) ≡ true
unfolding field_rule spared
spared_field list k t v x = spared_pick (length_permitted k t (length v)) _ _ (known_spared _ (known_value list k t (store k t v x))) refl

lost_only : {c : Checked} → spared c ≡ true → c ≡ Err LoadBelowZero → ⊥
unfolding spared
lost_only p e = false≢true (rw e at p)

pub fields_spared : (newest : RecordKind) (list f : List ℕ) (at : ℕ) {r : Refusal} → fields_at newest list f at ≡ Err r → r.rule ≡ LoadBelowZero → ⊥
unfolding fields_at site_kinds
fields_spared newest list f at {r} e is =
    ⊎_elim (λ o. lost_only (spared_outer (known_to newest) (drop at f)) (o.broken ∙ ap Err is))
    (λ n.
    ⊎_elim (λ d. lost_only (spared_then _ _ (spared_head d.tag _) (spared_field list _ d.tag _ _)) (d.broken ∙ ap Err is))
    (λ l. let z = sym l.broken ∙ is in cc)
    n.inner.here)
    (first_in_record (known_to newest) (site_kinds list) (drop at f) at r e)
