-- Laws of what reading gives.
use mathlib.Core.Path.{◌≡◌}
use Prim.Native.Nat.{ℕ}
use Rattle.std.specs.Prelude.{Result, Ok, Err}
use Rattle.site.specs.declared.Refusal.{Refusal}
use Rattle.record.specs.Records.{ending}

module _ {A : Type 0} where
  pub ending_ok : (end : ℕ) (q : Result A Refusal) {x : A × ℕ} → ending end q ≡ Ok x → (q ≡ Ok x.0) × (x.1 ≡ end)
  unfolding ending
  ending_ok end (Ok y) {x} e = let p : (y, end) ≡ x = cc in (rw (← p), rw (← p))
  ending_ok end (Err r) e = cc
