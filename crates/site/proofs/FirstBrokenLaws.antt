-- The check of a site value gives the first broken rule in tag order.
use mathlib.Core.Path.{◌≡◌, refl, ap, ◌∙◌}
use mathlib.Core.List.{List, [], ◌∷◌}
use Prim.Native.Nat.{ℕ, zero, suc, ◌<◌}
use native.Mathlib.Omega.{arith}
use lib.ListN.{length, get_or}
use Rattle.site.specs.declared.Site.{Site}
use Rattle.site.specs.declared.Rule.{Rule}
use Rattle.site.specs.declared.RecordKind.{RecordKind}
use Rattle.site.specs.Refusal.{Checked, and_then}
use Rattle.std.specs.Prelude.{Ok, Err}
use Rattle.site.specs.Kinds.{due}
use Rattle.site.specs.Values.{count_rule, value_rule}
use Rattle.site.specs.Check.{fields_rule, due_rule, FirstBroken}
use Rattle.site.proofs.Passing.{both_passed}

module _ (list : List ℕ) (k : RecordKind) where
  later_broken : (t : ℕ) (ts : List ℕ) (s : Site) (r : Rule) → and_then (count_rule t s) (value_rule list k t s) ≡ Ok tt → FirstBroken list k ts s r → FirstBroken list k (t ∷ ts) s r
  later_broken t ts s r p f = record {
    before = t ∷ f.before;
    tag = f.tag;
    later = f.later;
    order = ap (λ us. t ∷ us) f.order;
    passed = each;
    broken = f.broken;
  }
    where
      each : (i : ℕ) → i < length (t ∷ f.before) → (count_rule (get_or (t ∷ f.before) i 0) s ≡ Ok tt) × (value_rule list k (get_or (t ∷ f.before) i 0) s ≡ Ok tt)
      each zero h = both_passed _ _ p
      each (suc i) h = f.passed i (omega arith)

  first_broken : (ts : List ℕ) (s : Site) (r : Rule) → fields_rule list k ts s ≡ Err r → FirstBroken list k ts s r
  unfolding fields_rule and_then
  first_broken [] s r e = let z : ◌≡◌ {A = ℕ} 0 1 = cc in absurd (omega arith)
  first_broken (t ∷ ts) s r e = by_field (λ again. first_broken ts s r again) (and_then (count_rule t s) (value_rule list k t s)) refl e
    where
      by_field : (fields_rule list k ts s ≡ Err r → FirstBroken list k ts s r) → (c : Checked) → and_then (count_rule t s) (value_rule list k t s) ≡ c
          → and_then c (fields_rule list k ts s) ≡ Err r → FirstBroken list k (t ∷ ts) s r
      by_field again (Err x) q e = record { before = []; tag = t; later = ts; order = refl; passed = λ i h. absurd (omega arith); broken = q ∙ e }
      by_field again (Ok tt) q e = later_broken t ts s r q (again e)

pub site_first_broken : (list : List ℕ) (s : Site) (r : Rule) → due_rule list s ≡ Err r → FirstBroken list s.kind (due s.kind) s r
unfolding due_rule
site_first_broken list s r e = first_broken list s.kind (due s.kind) s r e
