-- What is read back from the columns of a line.
use Prim.Native.Nat.{ℕ, zero, suc, ◌-◌, ◌≤◌}
use mathlib.Core.Path.{◌≡◌, refl, sym, ap, ◌∙◌}
use mathlib.Core.Bool.{true, false}
use mathlib.Core.List.{List, [], ◌∷◌, ◌++◌, append_assoc, append-nil, map}
use Rattle.std.specs.Prelude.{◌==◌, not}
use Rattle.std.proofs.lemmas.List.Elements.{filter-append}
use lib.Dec.{eqb}
use lib.ListN.{length, take, replicate}
use lib.Seq.{take_all, take-append_seam, drop-append_seam}
use Rattle.std.specs.List.{flat_map}
use Rattle.text.specs.Words.{free}
use Rattle.text.proofs.WordLaws.{free_false}
use Rattle.columns.specs.PageLine.{left_in, right_in, in_columns, page_line}
use Rattle.columns.specs.LineRead.{cut, unspaced, column_widths, columns_of}
use Rattle.columns.proofs.PageLineLaws.{length_left, length_right}

-- ---- spaces dropped

unspaced_drops : (x : ℕ) (xs : List ℕ) → eqb x 32 ≡ true → unspaced (x ∷ xs) ≡ unspaced xs
unfolding unspaced
unspaced_drops x xs e = rw e

unspaced_keeps : (x : ℕ) (xs : List ℕ) → eqb x 32 ≡ false → unspaced (x ∷ xs) ≡ x ∷ unspaced xs
unfolding unspaced
unspaced_keeps x xs e = rw e

unspaced-append : (xs ys : List ℕ) → unspaced (xs ++ ys) ≡ unspaced xs ++ unspaced ys
unfolding unspaced
unspaced-append xs ys = filter-append (λ x. not (x == 32)) xs ys

unspaced_spaces : (n : ℕ) → unspaced (replicate n 32) ≡ []
unfolding unspaced
unspaced_spaces zero = refl
unspaced_spaces (suc n) = unspaced_spaces n

unspaced-free : (t : List ℕ) → free 32 t ≡ true → unspaced t ≡ t
unfolding unspaced
unspaced-free [] h = refl
unspaced-free (x ∷ xs) h =
    let f = free_false 32 x xs h in
    unspaced_keeps x xs f.0 ∙ ap (λ (l : List ℕ). x ∷ l) (unspaced-free xs f.1)

-- a text that its column does not cut
pub record Whole (w : ℕ) (t : List ℕ) : Type 0 where
  pub fits : length t ≤ w
  pub no_space : free 32 t ≡ true

module _ {w : ℕ} {t : List ℕ} (x : Whole w t) where
  from_left : unspaced (left_in w t) ≡ t
  unfolding left_in
  from_left =
      unspaced-append (take w t) (replicate (w - length t) 32)
      ∙ rw (take_all w t x.fits, unspaced-free t x.no_space, unspaced_spaces (w - length t), append-nil)

  from_right : unspaced (right_in w t) ≡ t
  unfolding right_in
  from_right =
      unspaced-append (replicate (w - length t) 32) (take w t)
      ∙ rw (take_all w t x.fits, unspaced-free t x.no_space, unspaced_spaces (w - length t))

-- ---- pieces

cut_cells : (cs : List (List ℕ)) (rest : List ℕ) → cut (map length cs) (flat_map (λ (c : List ℕ). c) cs ++ rest) ≡ cs
unfolding cut
cut_cells [] rest = refl
cut_cells (c ∷ cs) rest =
    rw (append_assoc c (flat_map (λ (c : List ℕ). c) cs) rest, take-append_seam c (flat_map (λ (c : List ℕ). c) cs ++ rest), drop-append_seam c (flat_map (λ (c : List ℕ). c) cs ++ rest), cut_cells cs rest)

module _ (a b c d e f g h i : List ℕ) where
  cells : List (List ℕ)
  cells = left_in 8 a ∷ right_in 8 b ∷ right_in 8 c ∷ right_in 8 d ∷ right_in 8 e ∷ right_in 2 f ∷ right_in 7 g ∷ right_in 7 h ∷ right_in 7 i ∷ []

  line_cells : page_line (a ∷ b ∷ c ∷ d ∷ e ∷ f ∷ g ∷ h ∷ i ∷ []) ≡ flat_map (λ (c : List ℕ). c) cells ++ (32 ∷ [])
  unfolding page_line in_columns cells
  line_cells = simp (append_assoc, append-nil)

  widths : map length cells ≡ column_widths
  unfolding cells
  widths = rw (length_left 8 a, length_right 8 b, length_right 8 c, length_right 8 d, length_right 8 e, length_right 2 f, length_right 7 g, length_right 7 h, length_right 7 i)

  cut_line : cut column_widths (page_line (a ∷ b ∷ c ∷ d ∷ e ∷ f ∷ g ∷ h ∷ i ∷ [])) ≡ cells
  cut_line =
      ap (λ (ws : List ℕ). cut ws (page_line (a ∷ b ∷ c ∷ d ∷ e ∷ f ∷ g ∷ h ∷ i ∷ []))) (sym widths)
      ∙ ap (cut (map length cells)) line_cells
      ∙ cut_cells cells (32 ∷ [])

  -- the columns of a line of whole texts are the texts
  pub columns_back :
      Whole 8 a → Whole 8 b → Whole 8 c → Whole 8 d → Whole 8 e → Whole 2 f → Whole 7 g → Whole 7 h → Whole 7 i
      → columns_of (page_line (a ∷ b ∷ c ∷ d ∷ e ∷ f ∷ g ∷ h ∷ i ∷ [])) ≡ a ∷ b ∷ c ∷ d ∷ e ∷ f ∷ g ∷ h ∷ i ∷ []
  unfolding columns_of cells
  columns_back wa wb wc wd we wf wg wh wi =
      ap (map unspaced) cut_line
      ∙ rw (from_left wa, from_right wb, from_right wc, from_right wd, from_right we, from_right wf, from_right wg, from_right wh, from_right wi)
