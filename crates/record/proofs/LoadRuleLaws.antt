-- Rule 21 of a record whose fields were accepted.
use Prim.Native.Nat.{ℕ, ◌-◌}
use mathlib.Core.Path.{◌≡◌, refl}
use mathlib.Core.Logic.{◌⊎◌, inl, inr}
use mathlib.Core.List.{List}
use Rattle.std.specs.Prelude.{Result, Ok, Err}
use Rattle.site.specs.declared.RecordKind.{RecordKind}
use Rattle.site.specs.declared.Site.{Site}
use Rattle.site.specs.declared.Refusal.{Refusal}
use Rattle.site.specs.declared.Rule.{Rule}
use Rattle.site.specs.Refusal.{unless}
use Rattle.site.proofs.ByCheckLaws.{unless_ok}
use Rattle.loads.specs.SiteTerms.{terms_of}
use Rattle.loads.specs.MaxS.{load_rule}
use Rattle.site.specs.Refusal.{Checked}
use Rattle.site.specs.Kinds.{counted_dioxide}
use Rattle.loads.proofs.WithoutBicarbonateLaws.{unlost_rule}
use Rattle.record.specs.Outer.{fields_at, dioxide_length, with_load}
use Rattle.record.specs.FirstFault.{LoadBroken}

module _ (list : List ℕ) where
  pub ok_with : {q : Result (Site × ℕ) Refusal} {x : Site × ℕ} → q ≡ Ok x → load_rule (terms_of list x.0) ≡ Ok tt → with_load list q ≡ Ok x
  unfolding with_load unless
  ok_with e p = rw (e, p)

  pub err_with : {q : Result (Site × ℕ) Refusal} {r : Refusal} → q ≡ Err r → with_load list q ≡ Err r
  unfolding with_load
  err_with e = rw e

  pub broken_with : {q : Result (Site × ℕ) Refusal} {x : Site × ℕ} {k : Rule} → q ≡ Ok x → load_rule (terms_of list x.0) ≡ Err k
      → with_load list q ≡ Err (record { rule = k; at = x.1 - dioxide_length })
  unfolding with_load unless
  broken_with e p = rw (e, p)

  -- without carbon dioxide it is never broken
  pub unlost_with : {q : Result (Site × ℕ) Refusal} {x : Site × ℕ} → q ≡ Ok x → counted_dioxide x.0 ≡ 0 → with_load list q ≡ Ok x
  unlost_with {x = x} e none = ok_with e (unlost_rule list x.0 none)

  pub with_ok : (q : Result (Site × ℕ) Refusal) {x : Site × ℕ} → with_load list q ≡ Ok x → (q ≡ Ok x) × (load_rule (terms_of list x.0) ≡ Ok tt)
  unfolding with_load
  with_ok (Ok y) {x} e =
      let p = unless_ok (load_rule (terms_of list y.0)) (y.1 - dioxide_length) (Ok y) e in
      let is : y ≡ x = cc in (p.1, rw is at p.0)
  with_ok (Err r) e = cc

  -- where it is refused, the fields are, or rule 21 is broken
  pub with_err : (newest : RecordKind) (f : List ℕ) (start : ℕ) {r : Refusal} → with_load list (fields_at newest list f start) ≡ Err r
      → (fields_at newest list f start ≡ Err r) ⊎ LoadBroken newest list f start r
  unfolding with_load unless
  with_err newest f start {r} = go (fields_at newest list f start) refl
    where
      by_load : (c : Checked) (x : Site × ℕ) → fields_at newest list f start ≡ Ok x → load_rule (terms_of list x.0) ≡ c
          → unless c (x.1 - dioxide_length) (Ok x) ≡ Err r → (fields_at newest list f start ≡ Err r) ⊎ LoadBroken newest list f start r
      by_load (Ok tt) x e l q = cc
      by_load (Err k) x e l q =
          let is : record { rule = k; at = x.1 - dioxide_length } ≡ r = cc in
          inr (record { site = x.0; next = x.1; accepted = e; broken = rw (← is) l; offset = rw (← is) refl })

      go : (q : Result (Site × ℕ) Refusal) → fields_at newest list f start ≡ q → with_load list q ≡ Err r → (fields_at newest list f start ≡ Err r) ⊎ LoadBroken newest list f start r
      go (Ok x) e q = by_load (load_rule (terms_of list x.0)) x e refl q
      go (Err k) e q = let is : k ≡ r = cc in inl (rw (← is) e)
