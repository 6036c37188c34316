-- A line of a page has 64 characters and one end.
use Prim.Native.Nat.{ℕ, zero, suc, ◌+◌, ◌-◌, ◌≤◌, ◌<◌}
use mathlib.Core.Path.{◌≡◌, refl, ◌∙◌}
use mathlib.Core.Bool.{true}
use mathlib.Core.List.{List, [], ◌∷◌, ◌++◌, append_assoc, append-nil, map}
use native.Mathlib.Omega.{arith}
use lib.ListN.{length, get_or, take, replicate, length-append, length-map, length-take, length-replicate, get_or-append}
use lib.Seq.{get_or_at, take_all}
use Rattle.std.proofs.lemmas.List.{get_or-map}
use borrow.Author.Tests.{eqb-false}
use Rattle.loads.specs.CriticalLoads.{load_numbers}
use Rattle.judgement.specs.declared.Verdict.{Verdict}
use Rattle.judgement.specs.declared.Verdict.TheVariants.{Within, Over}
use Rattle.judgement.specs.Verdicts.{verdict_numbers, verdict_word}
use Rattle.std.specs.Prelude.{codes}
use Rattle.text.specs.declared.Row.{Row}
use Rattle.text.specs.Decimal.{decimal}
use Rattle.text.specs.Line.{numbers_of, name_text}
use Rattle.text.specs.Listing.{head_text}
use Rattle.text.specs.Words.{split, free}
use Rattle.text.proofs.WordLaws.{free-cons, free-append, free_false, free-decimal}
use Rattle.text.proofs.MarkLaws.{free_mark}
use Rattle.columns.specs.PageLine.{left_in, right_in, in_columns, page_line, head_line, line_texts, row_texts, row_line, number_columns, ended}

-- ---- lengths

pub length_left : (w : ℕ) (t : List ℕ) → length (left_in w t) ≡ w
unfolding left_in
length_left w t = simp (length-append, length-take, length-replicate) (omega arith)

pub length_right : (w : ℕ) (t : List ℕ) → length (right_in w t) ≡ w
unfolding right_in
length_right w t = simp (length-append, length-take, length-replicate) (omega arith)

pub length_page_line : (ts : List (List ℕ)) → length (page_line ts) ≡ 64
unfolding page_line in_columns
length_page_line ts = simp (length-append, length_left, length_right)

-- the last character
space_behind : (xs : List ℕ) → length (xs ++ (32 ∷ [])) ≡ 64 → get_or (xs ++ (32 ∷ [])) 63 0 ≡ 32
space_behind xs h = get_or_at xs 32 [] 0 63 (omega (arith, length-append xs (32 ∷ [])))

pub last_space : (ts : List (List ℕ)) → get_or (page_line ts) 63 0 ≡ 32
unfolding page_line
last_space ts = space_behind (in_columns ts) (length_page_line ts)

pub length-ended : (l : List ℕ) → length (ended l) ≡ length l + 1
unfolding ended
length-ended l = length-append l (10 ∷ [])

whole_line : (ts : List (List ℕ)) → length (ended (page_line ts)) ≡ 65
whole_line ts = omega (arith, length-ended (page_line ts), length_page_line ts)

pub length_head : length (ended head_line) ≡ 65
unfolding head_line
length_head = whole_line _

pub length_row : (r : Row) → length (ended (row_line r)) ≡ 65
unfolding row_line
length_row r = whole_line _

-- the header, with its end, as the bytes that are written
pub head_bytes : ended head_line ≡ codes "id          maxS    minN    maxN    nutNre acidEx  nutExverdict \n"
unfolding ended head_line page_line in_columns left_in right_in head_text split
head_bytes = refl

-- ---- the texts of a line

pub seven_of : (r : Row) → length (numbers_of r) ≡ 7
unfolding numbers_of load_numbers verdict_numbers
seven_of r = by_verdict r.verdict
  where
    by_verdict : (v : Verdict) → length (load_numbers r.loads ++ verdict_numbers v) ≡ 7
    by_verdict Within = refl
    by_verdict (Over g a n) = refl

-- what holds of every seven numbers holds of a list of that length
of_seven : (P : List ℕ → Type 0) → ((a b c d e f g : ℕ) → P (a ∷ b ∷ c ∷ d ∷ e ∷ f ∷ g ∷ [])) → (ns : List ℕ) → length ns ≡ 7 → P ns
of_seven P h (a ∷ b ∷ c ∷ d ∷ e ∷ f ∷ g ∷ []) s = h a b c d e f g
of_seven P h [] s = absurd (omega arith)
of_seven P h (a ∷ []) s = absurd (omega arith)
of_seven P h (a ∷ b ∷ []) s = absurd (omega arith)
of_seven P h (a ∷ b ∷ c ∷ []) s = absurd (omega arith)
of_seven P h (a ∷ b ∷ c ∷ d ∷ []) s = absurd (omega arith)
of_seven P h (a ∷ b ∷ c ∷ d ∷ e ∷ []) s = absurd (omega arith)
of_seven P h (a ∷ b ∷ c ∷ d ∷ e ∷ f ∷ []) s = absurd (omega arith)
of_seven P h (a ∷ b ∷ c ∷ d ∷ e ∷ f ∷ g ∷ x ∷ ns) s = absurd (omega arith)

module _ (name ns mark : List ℕ) (seven : length ns ≡ 7) where
  texts_length : length (map decimal ns) ≡ 7
  texts_length = length-map ns decimal ∙ seven

  text_name : get_or (line_texts name ns mark) 0 [] ≡ name
  unfolding line_texts
  text_name = refl

  text_number : (k : ℕ) → k < 7 → get_or (line_texts name ns mark) (suc k) [] ≡ decimal (get_or ns k 0)
  unfolding line_texts
  text_number k h =
      get_or-append (map decimal ns) (mark ∷ []) [] k (omega (arith, texts_length))
      ∙ get_or-map decimal ns k 0 [] (omega (arith, seven))

  text_mark : get_or (line_texts name ns mark) 8 [] ≡ mark
  unfolding line_texts
  text_mark = get_or_at (map decimal ns) mark [] [] 7 texts_length

  -- the line as it is written
  pub line_bytes : ended (page_line (line_texts name ns mark)) ≡ left_in 8 name ++ number_columns ns ++ (right_in 7 mark ++ codes " \n")
  unfolding ended page_line in_columns line_texts number_columns
  line_bytes =
      of_seven
      (λ ns. ended (page_line (line_texts name ns mark)) ≡ left_in 8 name ++ number_columns ns ++ (right_in 7 mark ++ codes " \n"))
      (λ a b c d e f g. simp (append_assoc, append-nil))
      ns
      seven

pub row_bytes : (r : Row) → ended (row_line r) ≡ left_in 8 (name_text r) ++ number_columns (numbers_of r) ++ (right_in 7 (verdict_word r.verdict) ++ codes " \n")
unfolding row_line row_texts
row_bytes r = line_bytes (name_text r) (numbers_of r) (verdict_word r.verdict) (seven_of r)

-- a name that its column does not cut
pub left_short : (w : ℕ) (t : List ℕ) → length t ≤ w → left_in w t ≡ t ++ replicate (w - length t) 32
unfolding left_in
left_short w t h = rw (take_all w t h)

-- the columns of all the numbers
pub columns_whole : (ns : List ℕ) → length ns ≡ 7 → length (number_columns ns) ≡ 48
unfolding number_columns
columns_whole = of_seven (λ ns. length (number_columns ns) ≡ 48) (λ a b c d e f g. simp (length-append, length_right))

-- ---- a line has one end

free_spaces : (n : ℕ) → free 10 (replicate n 32) ≡ true
unfolding free
free_spaces zero = refl
free_spaces (suc n) = free-cons 10 32 (replicate n 32) (λ e. omega arith) (free_spaces n)

free-take : (w : ℕ) (t : List ℕ) → free 10 t ≡ true → free 10 (take w t) ≡ true
unfolding free
free-take zero t h = refl
free-take (suc w) [] h = refl
free-take (suc w) (x ∷ t) h = let f = free_false 10 x t h in free-cons 10 x (take w t) (eqb-false x 10 f.0) (free-take w t f.1)

free_left : (w : ℕ) (t : List ℕ) → free 10 t ≡ true → free 10 (left_in w t) ≡ true
unfolding left_in
free_left w t h = free-append 10 (take w t) (replicate (w - length t) 32) (free-take w t h) (free_spaces (w - length t))

free_right : (w : ℕ) (t : List ℕ) → free 10 t ≡ true → free 10 (right_in w t) ≡ true
unfolding right_in
free_right w t h = free-append 10 (replicate (w - length t) 32) (take w t) (free_spaces (w - length t)) (free-take w t h)

free_line : (name mark : List ℕ) → free 10 name ≡ true → free 10 mark ≡ true → (a b c d e f g : ℕ) → free 10 (page_line (line_texts name (a ∷ b ∷ c ∷ d ∷ e ∷ f ∷ g ∷ []) mark)) ≡ true
unfolding page_line in_columns line_texts
free_line name mark h m a b c d e f g =
    let join = free-append 10 in
    let number = λ (w n : ℕ). free_right w (decimal n) (free-decimal 10 n (omega arith)) in
    join _ _ (join _ _ (join _ _ (join _ _ (join _ _ (join _ _ (join _ _ (join _ _ (join _ _ (free_left 8 name h)
    (number 8 a)) (number 8 b)) (number 8 c)) (number 8 d)) (number 2 e)) (number 7 f)) (number 7 g)) (free_right 7 mark m)) (free_spaces 1)

pub free_head : free 10 head_line ≡ true
unfolding head_line page_line in_columns left_in right_in head_text split free
free_head = refl

pub free_row : (r : Row) → free 10 (name_text r) ≡ true → free 10 (row_line r) ≡ true
unfolding row_line row_texts
free_row r h =
    of_seven
    (λ ns. free 10 (page_line (line_texts (name_text r) ns (verdict_word r.verdict))) ≡ true)
    (free_line (name_text r) (verdict_word r.verdict) h (free_mark r.verdict).0)
    (numbers_of r)
    (seven_of r)
