-- The lines of pages: how many, where each stands, and what one more row adds.
use Prim.Native.Nat.{ℕ, zero, suc, ◌+◌, ◌*◌, ◌-◌, ◌/◌, ◌%◌, ◌≤◌, ◌<◌, min}
use mathlib.Core.Path.{◌≡◌, refl, ap, ◌∙◌}
use mathlib.Core.Logic.{⊎_elim}
use mathlib.Core.List.{List, [], ◌∷◌, ◌++◌, append_assoc, map}
use native.Mathlib.Omega.{arith}
use native.Mathlib.Numerals.{add-one}
use lib.ListN.{length, get_or, take, drop, length-append, length-map, length-take, length-drop, drop_of_length-le, get_or-append}
use lib.Seq.{take_all, take-append-le, drop-append-le, get_or-take, get_or-drop, get_or-append-add}
use Rattle.std.proofs.lemmas.Bool.{cases_lt}
use Rattle.std.proofs.lemmas.List.{get_or-map, map-append}
use Rattle.text.specs.declared.Row.{Row}
use Rattle.columns.specs.PageLine.{head_line, row_line}
use Rattle.pages.specs.Pages.{lines_on, lines_to, page_count}

-- ---- how many

length_on : (rs : List Row) (p : ℕ) → length (lines_on rs p) ≡ 1 + min 59 (length rs - 59 * p)
unfolding lines_on
length_on rs p = simp (length-map, length-take, length-drop) (omega arith)

length_to : (rs : List Row) (n : ℕ) → length (lines_to rs n) ≡ n + min (59 * n) (length rs)
unfolding lines_to
length_to rs zero = omega arith
length_to rs (suc n) = length-append (lines_to rs n) (lines_on rs n) ∙ omega (arith, length_to rs n, length_on rs n)

pub length_lines : (rs : List Row) → length (lines_to rs (page_count (length rs))) ≡ length rs + page_count (length rs)
length_lines rs = omega (arith, length_to rs (page_count (length rs)))

-- ---- where each stands

module _ (rs : List Row) (p l : ℕ) (h : 59 * p ≤ length rs) (i : l < length (lines_on rs p)) where
  line_on : (n : ℕ) → p < n → get_or (lines_to rs n) (60 * p + l) [] ≡ get_or (lines_on rs p) l []
  unfolding lines_to
  line_on zero q = absurd (omega arith)
  line_on (suc n) q = ⊎_elim (λ g. before g (line_on n g)) here (cases_lt p n)
    where
      before : p < n → get_or (lines_to rs n) (60 * p + l) [] ≡ get_or (lines_on rs p) l [] → get_or (lines_to rs n ++ lines_on rs n) (60 * p + l) [] ≡ get_or (lines_on rs p) l []
      before g ih =
          get_or-append (lines_to rs n) (lines_on rs n) [] (60 * p + l) (omega (arith, length_to rs n, length_on rs p))
          ∙ ih

      here : n ≤ p → get_or (lines_to rs n ++ lines_on rs n) (60 * p + l) [] ≡ get_or (lines_on rs p) l []
      here g =
          let same : n ≡ p = omega arith in
          let full : 60 * p + l ≡ length (lines_to rs p) + l = omega (arith, length_to rs p) in
          rw (same, full, get_or-append-add)

-- the header, and site k
pub header_at : (rs : List Row) (p : ℕ) → p < page_count (length rs) → get_or (lines_to rs (page_count (length rs))) (60 * p + 0) [] ≡ head_line
unfolding lines_on
header_at rs p h = line_on rs p 0 (omega arith) (omega (arith, length_on rs p)) (page_count (length rs)) h

pub site_at_lem : (rs : List Row) (k : ℕ) (d : Row) → k < length rs
    → get_or (lines_to rs (page_count (length rs))) (60 * (k / 59) + (k % 59 + 1)) [] ≡ row_line (get_or rs k d)
unfolding lines_on
site_at_lem rs k d h =
    let p = k / 59 in
    let m = k % 59 in
    let whole : 59 * p + m ≡ k = omega arith in
    let inside : m < length (take 59 (drop (59 * p) rs)) = simp (length-take, length-drop) (omega arith) in
    line_on rs p (m + 1) (omega arith) (omega (arith, length_on rs p)) (page_count (length rs)) (omega arith)
    ∙ ap (λ (j : ℕ). get_or (lines_on rs p) j []) (add-one m)
    ∙ get_or-map row_line (take 59 (drop (59 * p) rs)) m d [] inside
    ∙ ap row_line (get_or-take 59 (drop (59 * p) rs) m d (omega arith) ∙ get_or-drop (59 * p) rs m d ∙ ap (λ (j : ℕ). get_or rs j d) whole)

-- ---- one row more

on_append : (rs ys : List Row) (p : ℕ) → 59 * p + 59 ≤ length rs → lines_on (rs ++ ys) p ≡ lines_on rs p
unfolding lines_on
on_append rs ys p h =
    let long : 59 ≤ length (drop (59 * p) rs) = simp length-drop (omega arith) in
    rw (drop-append-le (59 * p) rs ys (omega arith), take-append-le 59 (drop (59 * p) rs) ys long)

to_append : (rs ys : List Row) (n : ℕ) → 59 * n ≤ length rs → lines_to (rs ++ ys) n ≡ lines_to rs n
unfolding lines_to
to_append rs ys zero h = refl
to_append rs ys (suc n) h = rw (to_append rs ys n (omega arith), on_append rs ys n (omega arith))

-- the sites of the page that row r goes to, which is not full
on_last : (rs : List Row) (r : Row) (p : ℕ) → 59 * p ≤ length rs → length rs < 59 * p + 59
    → lines_on (rs ++ (r ∷ [])) p ≡ head_line ∷ (map row_line (drop (59 * p) rs) ++ (row_line r ∷ []))
unfolding lines_on
on_last rs r p h l =
    let short : length (drop (59 * p) rs ++ (r ∷ [])) ≤ 59 = simp (length-append, length-drop) (omega arith) in
    rw (drop-append-le (59 * p) rs (r ∷ []) h, take_all 59 (drop (59 * p) rs ++ (r ∷ [])) short, map-append row_line (drop (59 * p) rs) (r ∷ []))

-- it starts a page
pub lines_start : (rs : List Row) (r : Row) → length rs % 59 ≡ 0
    → lines_to (rs ++ (r ∷ [])) (page_count (length rs + 1)) ≡ lines_to rs (page_count (length rs)) ++ (head_line ∷ row_line r ∷ [])
unfolding lines_to
lines_start rs r h =
    let q = length rs / 59 in
    let old : page_count (length rs) ≡ q = omega arith in
    let new : page_count (length rs + 1) ≡ suc q = omega arith in
    let none : drop (59 * q) rs ≡ [] = drop_of_length-le rs {i = 59 * q} (omega arith) in
    rw (old, new, to_append rs (r ∷ []) q (omega arith), on_last rs r q (omega arith) (omega arith), none)

-- the sites of a last page
on_all : (rs : List Row) (p : ℕ) → length rs ≤ 59 * p + 59 → lines_on rs p ≡ head_line ∷ map row_line (drop (59 * p) rs)
unfolding lines_on
on_all rs p h =
    let short : length (drop (59 * p) rs) ≤ 59 = simp length-drop (omega arith) in
    rw (take_all 59 (drop (59 * p) rs) short)

-- it stands under others
pub lines_under : (rs : List Row) (r : Row) → (length rs % 59 ≡ 0 → ⊥)
    → lines_to (rs ++ (r ∷ [])) (page_count (length rs + 1)) ≡ lines_to rs (page_count (length rs)) ++ (row_line r ∷ [])
unfolding lines_to
lines_under rs r h =
    let q = length rs / 59 in
    let old : page_count (length rs) ≡ suc q = omega arith in
    let new : page_count (length rs + 1) ≡ suc q = omega arith in
    rw (old, new, to_append rs (r ∷ []) q (omega arith), on_last rs r q (omega arith) (omega arith), on_all rs q (omega arith), append_assoc)
