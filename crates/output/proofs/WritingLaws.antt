-- Laws of `write` and `Wrote`. None has a side condition but those that speak of room.
use Prim.Native.Nat.{ℕ, suc, ◌+◌, ◌≤◌, ◌<◌}
use mathlib.Core.Path.{◌≡◌, refl, sym, ap, ◌∙◌}
use mathlib.Core.List.{List, [], ◌∷◌, ◌++◌, append_assoc}
use native.Mathlib.Nat.{add-zero, zero-add, add_assoc}
use native.Mathlib.Omega.{arith}
use native.Mathlib.Numerals.{add-one}
use lib.ListN.{length, get_or, set, take, drop, length-set, length-append}
use lib.Seq.{take-suc, take_all, take-length, set_comm, sets, sets-eq}
use borrow.Rule.Slice.PartMut.{put_mid}
use Rattle.std.proofs.lemmas.Slice.{put_mid-paste}
use Rattle.std.proofs.lemmas.List.{take-append-drop}
use Rattle.output.specs.Writing.{write, Wrote, WroteIf}

module _ {A : Type 0} where
  length-write : (d : List A) (at : ℕ) (xs : List A) → length (write d at xs) ≡ length d
  unfolding write
  length-write d at [] = refl
  length-write d at (x ∷ xs) = length-write (set d at x) (suc at) xs ∙ length-set d at x

  -- one run after another is one run
  write-append : (d : List A) (at : ℕ) (xs ys : List A) → write (write d at xs) (at + length xs) ys ≡ write d at (xs ++ ys)
  unfolding write
  write-append d at [] ys = ap (λ (k : ℕ). write d k ys) (add-zero at)
  write-append d at (x ∷ xs) ys =
      ap (λ (k : ℕ). write (write (set d at x) (suc at) xs) k ys) (omega arith) ∙ write-append (set d at x) (suc at) xs ys

  -- a store in front of a run
  set-write : (d : List A) (i k : ℕ) (xs : List A) (x : A) → i < k → set (write d k xs) i x ≡ write (set d i x) k xs
  unfolding write
  set-write d i k [] x h = refl
  set-write d i k (y ∷ ys) x h =
      set-write (set d k y) i (suc k) ys x (omega arith) ∙ ap (λ (e : List A). write e (suc k) ys) (set_comm d k i y x (omega arith))

  pub write_before : (d : List A) (i : ℕ) (xs : List A) (x : A) → set (write d (suc i) xs) i x ≡ write d i (x ∷ xs)
  unfolding write
  write_before d i xs x = set-write d i (suc i) xs x (omega arith)

  write_sets : (d : List A) (at : ℕ) (xs : List A) → write d at xs ≡ sets d at xs
  unfolding write
  write_sets d at [] = refl
  write_sets d at (x ∷ xs) = write_sets (set d at x) (suc at) xs

  -- the form for a contract that users read
  write-eq : (d : List A) (at : ℕ) (xs : List A) → at + length xs ≤ length d → write d at xs ≡ take at d ++ xs ++ drop (at + length xs) d
  write-eq d at xs h = write_sets d at xs ∙ sets-eq xs d at h

  -- ---- chains of writes

  pub nothing : (d : List A) (at : ℕ) → Wrote d at [] d at
  unfolding write
  nothing d at = record { next = omega arith; text = refl }

  pub then : {d e f : List A} {at r s : ℕ} {xs ys : List A} → Wrote d at xs e r → Wrote e r ys f s → Wrote d at (xs ++ ys) f s
  then {d} {e} {f} {at} {r} {s} {xs} {ys} v w =
      record {
        next = omega (arith, length-append xs ys, v.next, w.next);
        text = w.text ∙ rw (v.text, v.next, write-append);
      }

  pub stored : (d : List A) (at : ℕ) (x : A) → Wrote d at (x ∷ []) (set d at x) (at + 1)
  unfolding write
  stored d at x = record { next = refl; text = refl }

  -- a store behind a run, at the index that the code has for its end
  pub and_stored : {d e : List A} {at r : ℕ} {xs : List A} → Wrote d at xs e r → (i : ℕ) (x : A) → i ≡ r → Wrote d at (xs ++ x ∷ []) (set e i x) (i + 1)
  and_stored {d} {e} {at} {r} {xs} w i x q = rw q (then w (stored e r x))

  pub ends_at : {d e : List A} {at r : ℕ} {xs : List A} → Wrote d at xs e r → (s : ℕ) → s ≡ r → Wrote d at xs e s
  ends_at w s q = rw q w

  pub kept : {d e : List A} {at r : ℕ} {xs : List A} → Wrote d at xs e r → length e ≡ length d
  kept {d} {e} {at} {r} {xs} w = rw (w.text, length-write)

  -- what the next run needs, from what the whole needed
  pub room : {d e : List A} {at r : ℕ} {xs : List A} (ys : List A) → Wrote d at xs e r → at + length (xs ++ ys) ≤ length d → r + length ys ≤ length e
  room {d} {e} {at} {r} {xs} ys w h = omega (arith, length-append xs ys, w.next, kept w)

  wrote_at : {d e : List A} {at r : ℕ} {xs : List A} → Wrote d at xs e r → at + length xs ≤ length d → e ≡ take at d ++ xs ++ drop (at + length xs) d
  wrote_at {d} {e} {at} {r} {xs} w h = w.text ∙ write-eq d at xs h

  -- the form at the front
  pub in_front : {d e : List A} {r : ℕ} {xs : List A} → Wrote d 0 xs e r → length xs ≤ length d → (r ≡ length xs) × (e ≡ xs ++ drop (length xs) d)
  in_front {d} {e} {r} {xs} w h = (omega (arith, w.next), wrote_at w (omega arith) ∙ rw zero-add)

  -- a run for which there is no room
  pub wrote_none : (d : List A) (at : ℕ) (xs : List A) → length d < at + length xs → WroteIf d at xs d at
  wrote_none d at xs h = record { fits = λ l. absurd (omega arith); short = λ l. (refl, refl) }

  pub wrote_some : {d e : List A} {at r : ℕ} {xs : List A} → at + length xs ≤ length d → Wrote d at xs e r → WroteIf d at xs e r
  wrote_some h w = record { fits = λ l. w; short = λ l. absurd (omega arith) }

  -- a run that is known by the parts before it and from it on
  pub wrote_parts : {d e : List A} {at r : ℕ} {xs : List A} → r ≡ at + length xs → r ≤ length d → take at e ≡ take at d → drop at e ≡ xs ++ drop r d → WroteIf d at xs e r
  wrote_parts {d} {e} {at} {r} {xs} q h before after =
      let text : e ≡ take at d ++ xs ++ drop (at + length xs) d = sym (take-append-drop at e) ∙ rw (before, after, q) (simp append_assoc) in
      wrote_some (omega arith) (record { next = q; text = text ∙ sym (write-eq d at xs (omega arith)) })

  -- what a copy of xs to the elements from `at` on leaves
  pub copied : (d : List A) (at : ℕ) (xs ys : List A) (k : ℕ) → ys ≡ xs → k ≡ length xs → at + length xs ≤ length d → WroteIf d at xs (put_mid at k d ys) (at + length xs)
  copied d at xs ys k e n h =
      let left : put_mid at k d ys ≡ take at d ++ xs ++ drop (at + length xs) d = put_mid-paste at k d ys xs (length xs) e (sym n) refl ∙ simp take-length in
      wrote_some h (record { next = refl; text = left ∙ sym (write-eq d at xs h) })

  -- a store, then a run from the next index on
  pub stored_then : {d e : List A} {at r : ℕ} {x : A} {xs : List A} → WroteIf (set d at x) (at + 1) xs e r → at + length (x ∷ xs) ≤ length d → Wrote d at (x ∷ xs) e r
  stored_then {d} {at = at} {x = x} w h = then (stored d at x) (w.fits (simp length-set (omega arith)))

  -- ---- a loop that copies s, an element a turn

  pub copy_none : (d : List A) (at : ℕ) (s : List A) → Wrote d at (take 0 s) d (at + 0)
  unfolding write
  copy_none d at s = record { next = refl; text = refl }

  pub copy_more : {d e : List A} {at : ℕ} (z : A) (s : List A) (j : ℕ) → j < length s → Wrote d at (take j s) e (at + j)
      → Wrote d at (take (j + 1) s) (set e (at + j) (get_or s j z)) (at + (j + 1))
  copy_more {d} {e} {at} z s j h w = rw (add-one, take-suc s j z, ← add-one, ← add_assoc) (then w (stored e (at + j) (get_or s j z)))

  pub copy_all : {d e : List A} {at r : ℕ} (s : List A) (j : ℕ) → length s ≤ j → Wrote d at (take j s) e r → Wrote d at s e r
  copy_all s j h w = rw (take_all j s h) at w
