-- What a list that is lent does to an answer, by what its check says.
use Prim.Native.Nat.{ℕ, ◌≤◌}
use mathlib.Core.Path.{◌≡◌}
use mathlib.Core.List.{List}
use native.Mathlib.Omega.{arith}
use Rattle.std.specs.Prelude.{Result, Ok, Err}
use Rattle.site.specs.Refusal.{Checked, unless}
use Rattle.site.specs.SpeciesList.{list_rule, list_fault}
use Rattle.site.specs.declared.Refusal.{Refusal}
use Rattle.site.proofs.ByCheckLaws.{unless_ok}
use Rattle.site.proofs.ListLaws.{fault_near}
use Rattle.exports.specs.Lent.{lent}

module _ {A : Type 0} (list : List ℕ) (x : Result A Refusal) where
  pub lent_good : list_rule list ≡ Ok tt → lent list x ≡ x
  unfolding lent unless
  lent_good e = rw e

  pub lent_bad : {r : Refusal} → list_rule list ≡ Err r.rule → r.at ≡ list_fault list → lent list x ≡ Err r
  unfolding lent unless
  lent_bad e at = rw (e, ← at)

  -- a value is given with a good list alone
  pub lent_ok : {y : A} → lent list x ≡ Ok y → (list_rule list ≡ Ok tt) × (x ≡ Ok y)
  unfolding lent
  lent_ok e = unless_ok (list_rule list) (list_fault list) x e

  -- no list is refused past 768 entries
  pub lent_at : {most : ℕ} → ((r : Refusal) → x ≡ Err r → r.at ≤ most) → 7680 ≤ most → (r : Refusal) → lent list x ≡ Err r → r.at ≤ most
  unfolding lent unless
  lent_at {most} h m r = go (list_rule list)
    where
      go : (c : Checked) → unless c (list_fault list) x ≡ Err r → r.at ≤ most
      go (Ok tt) e = h r e
      go (Err k) e = let z : r.at ≡ list_fault list = cc in omega (arith, fault_near list)
