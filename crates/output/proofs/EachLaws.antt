-- Laws of `flat_map`, and of a loop that writes the text of each element.
use Prim.Native.Nat.{ℕ, ◌+◌, ◌-◌, ◌≤◌, ◌<◌}
use mathlib.Core.Path.{◌≡◌, ap, ◌∙◌}
use mathlib.Core.List.{List, ◌++◌, append-nil}
use native.Mathlib.Omega.{arith}
use lib.ListN.{length, get_or, take, length-append}
use lib.Seq.{take-add}
use Rattle.std.proofs.lemmas.List.{take_more}
use Rattle.std.proofs.lemmas.List.Folds.{length-flat_map-take}
use Rattle.std.proofs.lemmas.Grind.{flat_map-append}
use Rattle.std.specs.Prelude.{flat_map}
use Rattle.output.specs.Writing.{Wrote}
use Rattle.output.proofs.WritingLaws.{then, room}

module _ {A B : Type 0} (f : A → List B) where
  pub each_append : (xs ys : List A) → flat_map f (xs ++ ys) ≡ flat_map f xs ++ flat_map f ys
  each_append xs ys = flat_map-append f xs ys

  -- a turn of a loop over xs; d is what stands past its end
  pub each_more : (xs : List A) (i : ℕ) (d : A) → i < length xs → flat_map f (take (i + 1) xs) ≡ flat_map f (take i xs) ++ f (get_or xs i d)
  each_more xs i d h = rw (take_more xs i d h, flat_map-append, append-nil)

  pub length_more : (xs : List A) (i : ℕ) (d : A) → i < length xs → length (flat_map f (take (i + 1) xs)) ≡ length (flat_map f (take i xs)) + length (f (get_or xs i d))
  length_more xs i d h = ap length (each_more xs i d h) ∙ length-append (flat_map f (take i xs)) (f (get_or xs i d))

  -- the room for one more, from the room for all
  pub each_fits : (at : ℕ) {m : ℕ} (xs : List A) (i : ℕ) (d : A) → i < length xs → at + length (flat_map f xs) ≤ m
      → at + length (flat_map f (take i xs) ++ f (get_or xs i d)) ≤ m
  each_fits at xs i d h r = simp length-append (omega (arith, length-flat_map-take f xs i d h))

  -- where the first n fit, so do the first i + 1 of them
  pub each_room : (at : ℕ) {m : ℕ} (xs : List A) (i n : ℕ) (d : A) → i < n → i < length xs → at + length (flat_map f (take n xs)) ≤ m
      → at + length (flat_map f (take i xs) ++ f (get_or xs i d)) ≤ m
  each_room at xs i n d h l r =
      let e : n ≡ (i + 1) + (n - (i + 1)) = omega arith in
      let whole = rw (e, take-add (i + 1) (n - (i + 1)) xs, each_append, length-append) at r in
      rw (← each_more xs i d l) (omega (arith, whole))

-- ---- a turn of a loop that has written the texts of the first i elements; z is what stands past the end of xs

module _ {A B : Type 0} (f : A → List B) (xs : List A) (i : ℕ) (z : A) (h : i < length xs) {d e : List B} {at r : ℕ} (w : Wrote d at (flat_map f (take i xs)) e r) where
  -- the next text fits
  pub next_fits : at + length (flat_map f xs) ≤ length d → r + length (f (get_or xs i z)) ≤ length e
  next_fits l = room (f (get_or xs i z)) w (simp length-append (omega (arith, length-flat_map-take f xs i z h)))

  -- when it is written, so are the first i + 1
  pub next_written : {g : List B} {s : ℕ} → Wrote e r (f (get_or xs i z)) g s → Wrote d at (flat_map f (take (i + 1) xs)) g s
  next_written v = rw (take_more xs i z h, flat_map-append, append-nil) (then w v)
