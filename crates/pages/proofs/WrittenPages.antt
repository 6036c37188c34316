-- The pages as they are written, page after page and row after row, with 65 bytes a line.
use Prim.Native.Nat.{ℕ, zero, suc, ◌+◌, ◌-◌, ◌*◌, ◌<◌, ◌≤◌, min}
use mathlib.Core.Path.{◌≡◌, sym, ap, ◌∙◌}
use mathlib.Core.List.{List, [], ◌∷◌, ◌++◌, append_assoc, append-nil, map}
use native.Mathlib.Omega.{arith}
use native.Mathlib.Numerals.{add-one}
use lib.ListN.{length, get_or, take, drop, length-append, length-take, length-drop}
use Rattle.std.proofs.lemmas.List.{map-append, take_at, drop_at, take_min, drop_min, drop-drop, take_more}
use Rattle.site.specs.declared.Rule.TheVariants.{BufferShort}
use Rattle.std.specs.Prelude.{Ok, Err, flat_map}
use Rattle.output.specs.Output.{held}
use Rattle.output.specs.Writing.{Wrote}
use Rattle.output.proofs.EachLaws.{each_append}
use Rattle.output.proofs.WritingLaws.{nothing, kept}
use Rattle.text.specs.declared.Row.{Row}
use Rattle.text.specs.TextAnswer.{text_answer}
use Rattle.text.proofs.TextAnswers.{text_refused, text_printed}
use Rattle.columns.specs.PageLine.{head_line, row_line, ended}
use Rattle.columns.proofs.PageLineLaws.{length_head, length_row}
use Rattle.pages.specs.Pages.{lines_on, lines_to, page_count, pages}

-- page n of rs, and what is left behind it
pub record Chunk (rs : List Row) (n : ℕ) (p q : List Row) : Type 0 where
  pub page : p ≡ take 59 (drop (59 * n) rs)
  pub left : q ≡ drop (59 * (n + 1)) rs
  pub more : 59 * n < length rs
  pub within : 59 * n + length p ≤ length rs

pub chunk : (rs : List Row) (n : ℕ) {xs p q : List Row} → xs ≡ drop (59 * n) rs → xs ≡ p ++ q → length p ≡ min 59 (length xs) → 0 < length xs → Chunk rs n p q
chunk rs n {xs} {p} {q} d e l h =
    let m = min 59 (length xs) in
    let long : length xs ≡ length rs - 59 * n = ap length d ∙ length-drop (59 * n) rs in
    let next : 59 * (n + 1) ≡ 59 * n + 59 = omega arith in
    record {
      page = sym (take_at p q m l) ∙ ap (take m) (sym e) ∙ take_min 59 xs ∙ ap (take 59) d;
      left = sym (drop_at p q m l) ∙ ap (drop m) (sym e) ∙ drop_min 59 xs ∙ ap (drop 59) d ∙ rw (drop-drop, next);
      more = omega arith;
      within = omega arith;
    }

-- one row more on a page
pub row_more : (rs : List Row) (i : ℕ) (d : Row) → i < length rs → flat_map ended (map row_line (take (i + 1) rs)) ≡ flat_map ended (map row_line (take i rs)) ++ ended (row_line (get_or rs i d))
row_more rs i d h = rw (take_more rs i d h, map-append, each_append, append-nil)

-- one page more
pub page_more : (rs : List Row) (n : ℕ) → flat_map ended (lines_to rs (n + 1)) ≡ flat_map ended (lines_to rs n) ++ ended head_line ++ flat_map ended (map row_line (take 59 (drop (59 * n) rs)))
unfolding lines_to lines_on
page_more rs n = rw (add-one, each_append, append_assoc)

pub length_rows : (rs : List Row) → length (flat_map ended (map row_line rs)) ≡ 65 * length rs
length_rows [] = omega arith
length_rows (r ∷ rs) = length-append (ended (row_line r)) (flat_map ended (map row_line rs)) ∙ omega (arith, length_row r, length_rows rs)

pub length_to_page : (rs : List Row) (n : ℕ) → length (flat_map ended (lines_to rs n)) ≡ 65 * (n + min (59 * n) (length rs))
unfolding lines_to lines_on
length_to_page rs zero = omega arith
length_to_page rs (suc n) =
    let on : length (take 59 (drop (59 * n) rs)) ≡ min 59 (length rs - 59 * n) = simp (length-take, length-drop) in
    ap length (each_append ended (lines_to rs n) (lines_on rs n))
    ∙ simp length-append
    (omega (arith, length_to_page rs n, length_head, length_rows (take 59 (drop (59 * n) rs)), on))

pub length-pages : (rs : List Row) → length (pages rs) ≡ 65 * (length rs + page_count (length rs))
unfolding pages
length-pages rs = omega (arith, length_to_page rs (page_count (length rs)))

-- the room for a page, from the room for all
pub page_room : {rs : List Row} {n : ℕ} {p q : List Row} → Chunk rs n p q → {d out : List ℕ} {o : ℕ} → Wrote d 0 (flat_map ended (lines_to rs n)) out o
    → 65 * (length rs + page_count (length rs)) ≤ length d → o + 65 * (1 + length p) ≤ length out
page_room {rs} {n} x w h = omega (arith, x.more, x.within, w.next, kept w, length_to_page rs n)

pub nothing_paged : (d : List ℕ) → Wrote d 0 (pages []) d 0
unfolding pages lines_to
nothing_paged d = nothing d 0

-- the answer and the buffer, where the pages do not fit and where they are written
module _ (rs : List Row) where
  pub pages_short : {d : List ℕ} → length d < 65 * (length rs + page_count (length rs)) → (Err (record { rule = BufferShort; at = 0 }) ≡ text_answer (pages rs) d) × (d ≡ held (pages rs) d)
  pages_short {d} l = let a = text_refused {most = length (pages rs)} (pages rs) d (omega (arith, length-pages rs)) (omega arith) in (a.answer, a.buffer)

  pub pages_put : {d e : List ℕ} {r : ℕ} → Wrote d 0 (pages rs) e r → 65 * (length rs + page_count (length rs)) ≤ length d → (Ok r ≡ text_answer (pages rs) d) × (e ≡ held (pages rs) d)
  pages_put w l = let a = text_printed {most = length (pages rs)} (pages rs) w (omega (arith, length-pages rs)) (omega arith) in (a.answer, a.buffer)
