-- Laws of `split`, `free` and `last_word`.
use Prim.Native.Nat.{ℕ, zero, suc, ◌+◌, ◌/◌, ◌%◌, ◌≤◌, ◌<◌}
use mathlib.Core.Path.{◌≡◌, refl, ap, ◌∙◌}
use mathlib.Core.Bool.{Bool, true, false}
use mathlib.Core.List.{List, [], ◌∷◌, ◌++◌, append_assoc, map}
use native.Mathlib.Omega.{arith}
use borrow.Author.Tests.{eq-eqb, ne_eqb, ltb-true, ltb-false}
use lib.Dec.{eqb, ltb}
use lib.ListN.{length, get_or}
use Rattle.text.specs.Decimal.{dec, decimal}
use Rattle.std.specs.Prelude.{flat_map, not}
use Rattle.text.specs.Line.{spaced}
use Rattle.std.specs.List.{onto_first}
use Rattle.std.proofs.lemmas.List.Sums.{AllPass-from_list_all}
use Rattle.std.proofs.lemmas.List.Folds.{list_all-append}
use Rattle.std.proofs.lemmas.List.Splits.{slice_split-cons_yes, slice_split_none, length-slice_split}
use Rattle.text.specs.Words.{split, last_or, last_word, free}
use Rattle.text.proofs.DecimalLaws.{dec_small, dec_step}

-- ---- split

onto_first-append : (x : ℕ) (r s : List (List ℕ)) → 1 ≤ length r → onto_first x (r ++ s) ≡ onto_first x r ++ s
onto_first-append x [] s h = absurd (omega arith)
onto_first-append x (w ∷ ws) s h = refl

-- a text is cut at a b by cutting what is before it and what is after it
pub split_at : (b : ℕ) (xs ys : List ℕ) → split b (xs ++ b ∷ ys) ≡ split b xs ++ split b ys
unfolding split
split_at b [] ys = slice_split-cons_yes (λ x. eqb x b) b ys (eq-eqb b b refl)
split_at b (x ∷ xs) ys = go (eqb x b) refl (split_at b xs ys)
  where
    go : (t : Bool) → eqb x b ≡ t → split b (xs ++ b ∷ ys) ≡ split b xs ++ split b ys → split b (x ∷ (xs ++ b ∷ ys)) ≡ split b (x ∷ xs) ++ split b ys
    go true e ih = rw (e, ih)
    go false e ih = rw (e, ih, onto_first-append x (split b xs) (split b ys) (omega (arith, length-slice_split (λ x. eqb x b) xs)))

not_true : (t : Bool) → not t ≡ true → t ≡ false
not_true true e = cc
not_true false e = refl

pub free_false : (b x : ℕ) (xs : List ℕ) → free b (x ∷ xs) ≡ true → (eqb x b ≡ false) × (free b xs ≡ true)
unfolding free
free_false b x xs h = go (eqb x b) refl
  where
    go : (t : Bool) → eqb x b ≡ t → (eqb x b ≡ false) × (free b xs ≡ true)
    go true e = let z : false ≡ true = rw e at h in (cc, cc)
    go false e = (e, rw e at h)

pub split-free : (b : ℕ) (xs : List ℕ) → free b xs ≡ true → split b xs ≡ xs ∷ []
unfolding split free
split-free b xs h = slice_split_none (λ x. eqb x b) xs (λ k d l. not_true _ (AllPass-from_list_all (λ x. not (eqb x b)) xs h k d l))

-- texts that are each ended by a b, cut at each b: the texts, and nothing behind the last b
module _ {A : Type 0} (b : ℕ) (f g : A → List ℕ) (end : (x : A) → g x ≡ f x ++ (b ∷ [])) where
  pub split-each : (xs : List A) (d : A) → ((k : ℕ) → k < length xs → free b (f (get_or xs k d)) ≡ true) → split b (flat_map g xs) ≡ map f xs ++ ([] ∷ [])
  unfolding split
  split-each [] d h = refl
  split-each (x ∷ xs) d h =
      let one : split b (f x) ≡ f x ∷ [] = split-free b (f x) (h zero (omega arith)) in
      let ih : split b (flat_map g xs) ≡ map f xs ++ ([] ∷ []) = split-each xs d (λ k l. h (suc k) (omega arith)) in
      ap (λ (t : List ℕ). split b (t ++ flat_map g xs)) (end x)
      ∙ ap (split b) (append_assoc (f x) (b ∷ []) (flat_map g xs))
      ∙ split_at b (f x) (flat_map g xs)
      ∙ rw (one, ih)

-- ---- free

pub free-cons : (b x : ℕ) (xs : List ℕ) → (x ≡ b → ⊥) → free b xs ≡ true → free b (x ∷ xs) ≡ true
unfolding free
free-cons b x xs h e = rw (ne_eqb x b h, free) e

pub free-append : (b : ℕ) (xs ys : List ℕ) → free b xs ≡ true → free b ys ≡ true → free b (xs ++ ys) ≡ true
unfolding free
free-append b xs ys h k = rw (list_all-append (λ x. not (eqb x b)) xs ys, h, k)

-- a digit is 48 or more, so neither a space nor 0A
free-dec : (b f n : ℕ) → b < 48 → free b (dec f n) ≡ true
unfolding dec free
free-dec b zero n h = free-cons b (48 + n) [] (λ e. omega arith) refl
free-dec b (suc f) n h = go (ltb n 10) refl (free-dec b f (n / 10) h)
  where
    go : (t : Bool) → ltb n 10 ≡ t → free b (dec f (n / 10)) ≡ true → free b (dec (suc f) n) ≡ true
    go true e ih = rw (dec_small (suc f) n (ltb-true n 10 e)) (free-cons b (48 + n) [] (λ e. omega arith) refl)
    go false e ih = rw (dec_step f n (ltb-false n 10 e)) (free-append b (dec f (n / 10)) ((48 + n % 10) ∷ []) ih (free-cons b (48 + n % 10) [] (λ e. omega arith) refl))

pub free-decimal : (b n : ℕ) → b < 48 → free b (decimal n) ≡ true
unfolding decimal
free-decimal b n h = free-dec b n n h

pub free-each : {A : Type 0} (b : ℕ) (f : A → List ℕ) (xs : List A) → ((x : A) → free b (f x) ≡ true) → free b (flat_map f xs) ≡ true
unfolding free
free-each b f [] h = refl
free-each b f (x ∷ xs) h = free-append b (f x) (flat_map f xs) (h x) (free-each b f xs h)

last_or-append : (d : List ℕ) (r : List (List ℕ)) (w : List ℕ) → last_or d (r ++ (w ∷ [])) ≡ w
unfolding last_or
last_or-append d [] w = refl
last_or-append d (v ∷ r) w = last_or-append v r w

-- what follows the last space
pub last_word-spaced : (p w : List ℕ) → free 32 w ≡ true → last_word (p ++ spaced w) ≡ w
unfolding last_word spaced
last_word-spaced p w h = ap (last_or []) (split_at 32 p w ∙ ap (λ (r : List (List ℕ)). split 32 p ++ r) (split-free 32 w h)) ∙ last_or-append [] (split 32 p) w
