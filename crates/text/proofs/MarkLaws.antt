-- The lines of a listing, and the last word of each.
use Prim.Native.Nat.{ℕ, zero, suc, ◌+◌, ◌<◌}
use mathlib.Core.Path.{◌≡◌, refl, ap, ◌∙◌}
use mathlib.Core.Bool.{true}
use mathlib.Core.List.{List, [], ◌∷◌, ◌++◌, map}
use native.Mathlib.Omega.{arith}
use native.Mathlib.Numerals.{add-one}
use lib.ListN.{length, get_or}
use Rattle.judgement.specs.declared.Verdict.{Verdict}
use Rattle.judgement.specs.declared.Verdict.TheVariants.{Within, Over}
use Rattle.text.specs.declared.Row.{Row}
use Rattle.std.specs.Prelude.{flat_map}
use Rattle.output.specs.Output.{Written}
use Rattle.text.specs.Decimal.{decimal}
use Rattle.judgement.specs.Verdicts.{verdict_word}
use Rattle.text.specs.Line.{blank_row, numbers_of, name_text, spaced, column, body, line}
use Rattle.text.specs.Listing.{head_text, header, listing}
use Rattle.text.specs.Words.{split, last_word, line_at, free}
use Rattle.text.specs.Marks.{Plain, Marked}
use Rattle.text.specs.TextAnswer.{RoomEnough}
use Rattle.text.proofs.TextAnswers.{AnsweredWithin, Answered, Clauses, clauses_then, written}
use Rattle.text.proofs.WordLaws.{split_at, split-free, split-each, free-cons, free-append, free-decimal, free-each, last_word-spaced}

pub free_mark : (v : Verdict) → (free 10 (verdict_word v) ≡ true) × (free 32 (verdict_word v) ≡ true)
unfolding verdict_word free
free_mark Within = (refl, refl)
free_mark (Over g a n) = (refl, refl)

-- a line has one end
free-spaced : (w : List ℕ) → free 10 w ≡ true → free 10 (spaced w) ≡ true
unfolding spaced
free-spaced w h = free-cons 10 32 w (λ e. omega arith) h

free-column : (n : ℕ) → free 10 (column n) ≡ true
unfolding column
free-column n = free-spaced (decimal n) (free-decimal 10 n (omega arith))

pub free-body : (r : Row) → free 10 (name_text r) ≡ true → free 10 (body r) ≡ true
unfolding body
free-body r h =
    free-append 10 _ _ (free-append 10 _ _ h (free-each 10 column (numbers_of r) free-column)) (free-spaced _ (free_mark r.verdict).0)

-- ---- the lines of a listing

split_lines : (rs : List Row) → Plain rs → split 10 (flat_map line rs) ≡ map body rs ++ ([] ∷ [])
unfolding line
split_lines rs h = split-each 10 body line (λ r. refl) rs blank_row (λ k l. free-body (get_or rs k blank_row) (h k l))

listing_head : (rs : List Row) → listing rs ≡ head_text ++ 10 ∷ flat_map line rs
unfolding listing header head_text
listing_head rs = refl

split_head : split 10 head_text ≡ head_text ∷ []
unfolding head_text free
split_head = split-free 10 head_text refl

-- all the lines: the header, a line for each row, and nothing after the last 0A
pub listing_lines : (rs : List Row) → Plain rs → split 10 (listing rs) ≡ head_text ∷ (map body rs ++ ([] ∷ []))
listing_lines rs h = ap (split 10) (listing_head rs) ∙ split_at 10 head_text (flat_map line rs) ∙ rw (split_head, split_lines rs h)

get_or-body : (rs : List Row) (k : ℕ) → k < length rs → get_or (map body rs ++ ([] ∷ [])) k [] ≡ body (get_or rs k blank_row)
get_or-body [] k h = absurd (omega arith)
get_or-body (r ∷ rs) zero h = refl
get_or-body (r ∷ rs) (suc k) h = get_or-body rs k (omega arith)

-- so the listing has a line more than its rows, and nothing behind the last 0A
pub line_count : (rs : List Row) → Plain rs → length (split 10 (listing rs)) ≡ length rs + 2
line_count rs h = ap length (listing_lines rs h) ∙ count_body rs
  where
    count_body : (rs : List Row) → length (head_text ∷ (map body rs ++ ([] ∷ []))) ≡ length rs + 2
    count_body [] = refl
    count_body (r ∷ rs) = omega (arith, count_body rs)

pub line-header : (rs : List Row) → Plain rs → line_at 0 (listing rs) ≡ head_text
unfolding line_at
line-header rs h = ap (λ (t : List (List ℕ)). get_or t 0 []) (listing_lines rs h)

pub line_behind : (rs : List Row) → Plain rs → line_at (length rs + 1) (listing rs) ≡ []
unfolding line_at
line_behind rs h = ap (λ (t : List (List ℕ)). get_or t (length rs + 1) []) (listing_lines rs h) ∙ rw (add-one) (past_body rs)
  where
    past_body : (rs : List Row) → get_or (map body rs ++ ([] ∷ [])) (length rs) [] ≡ []
    past_body [] = refl
    past_body (r ∷ rs) = past_body rs

-- line k + 1 is that of row k
pub line_of : (rs : List Row) (k : ℕ) → Plain rs → k < length rs → line_at (suc k) (listing rs) ≡ body (get_or rs k blank_row)
unfolding line_at
line_of rs k h l = ap (λ (t : List (List ℕ)). get_or t (suc k) []) (listing_lines rs h) ∙ get_or-body rs k l

pub body_mark : (r : Row) → last_word (body r) ≡ verdict_word r.verdict
unfolding body
body_mark r = last_word-spaced (name_text r ++ flat_map column (numbers_of r)) (verdict_word r.verdict) (free_mark r.verdict).1

-- the mark of line k + 1 is that of row k
pub mark_of : (rs : List Row) (k : ℕ) → Plain rs → k < length rs → last_word (line_at (suc k) (listing rs)) ≡ verdict_word (get_or rs k blank_row).verdict
mark_of rs k h l = ap last_word (line_of rs k h l) ∙ body_mark (get_or rs k blank_row)

-- the same of what a call has written
pub marked : {most : ℕ} (rs : List Row) (d e : List ℕ) (r : Written) → AnsweredWithin most (listing rs) d e r → Marked rs e r
marked rs d e r a n k b p l = rw (written (listing rs) d e r a.answer a.buffer n b) (mark_of rs k p l)

-- the clauses of a call that lists
pub and_marked : (rs : List Row) (d : List ℕ) {e : List ℕ} {r : Written} → Answered (listing rs) d e r
    → Clauses (listing rs) d e r (RoomEnough (listing rs) d r × Marked rs e r)
and_marked rs d {e} {r} a = clauses_then a (marked rs d e r a)
