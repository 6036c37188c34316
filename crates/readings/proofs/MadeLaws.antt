-- An array made by calls of a closure at each index: number k of it is f k, if a call at k gives that while P holds of the closure, and keeps P.
use Prim.Native.Nat.{ℕ, zero, suc, ◌+◌, ◌<◌, ◌≤◌}
use mathlib.Core.Path.{◌≡◌, ◌∙◌}
use mathlib.Core.List.{List}
use native.Mathlib.Omega.{arith}
use native.Mathlib.Decide.{dec_le}
use lib.ListN.{get_or}
use Rattle.std.specs.Prelude.{map}
use Rattle.std.specs.List.{range_with_len}
use Rattle.std.specs.Fn.{Mut, Called}
use Rattle.std.specs.Array.{IsFromFnResultFrom, IsFromFnResult}
use Rattle.std.proofs.lemmas.List.FromFn.{fill_by_all}

module _ {F B : Type 0} {g : Mut F (ℕ × Unit {0}) B} (P : F → Type 0) (f : ℕ → B) (step : (p : F) (k : ℕ) (y : B) (q : F) → P p → Called g p (k, tt) y q → P q × (y ≡ f k)) where
  each_made : (p : F) (ys : List B) (i n : ℕ) → P p → IsFromFnResultFrom g p ys i n → (k : ℕ) (d : B) → i ≤ k → k < i + n → get_or ys k d ≡ f k
  each_made p ys i zero h w k d l m = absurd (omega arith)
  each_made p ys i (suc n) h w k d l m =
      let s = step p i w.1 w.0 h w.3 in
      go s.1 (dec_le k i) (λ e. each_made w.0 ys (i + 1) n s.0 w.4 k d e (omega arith))
    where
      go : w.1 ≡ f i → Dec (k ≤ i) → (i + 1 ≤ k → get_or ys k d ≡ f k) → get_or ys k d ≡ f k
      go s (yes e) later = let same : k ≡ i = omega arith in rw same (w.2.1 d ∙ s)
      go s (no e) later = later (omega arith)

  pub made : {p : F} {ys : List B} {n : ℕ} → P p → IsFromFnResult g p ys n → ys ≡ map f (range_with_len 0 n)
  made {p} {ys} {n} h w = fill_by_all f ys n (f 0) w.long (λ k l. each_made p ys 0 n h w.each k (f 0) (omega arith) (omega arith))
