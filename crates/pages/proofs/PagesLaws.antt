-- From the sites of a file to what its pages say.
use Prim.Native.Nat.{ℕ, ◌+◌, ◌*◌, ◌-◌, ◌/◌, ◌%◌, ◌≤◌, ◌<◌}
use mathlib.Core.Path.{◌≡◌, refl, ap, ◌∙◌}
use mathlib.Core.Bool.{true}
use mathlib.Core.List.{List, [], ◌∷◌, ◌++◌, map}
use mathlib.Core.Logic.{⊎_elim}
use native.Mathlib.Omega.{arith}
use lib.ListN.{length, get_or, length-append, length-map, get_or-append}
use lib.Seq.{get_or-append_seam}
use Rattle.site.specs.declared.Site.{Site}
use Rattle.output.specs.Output.{Written, held}
use Rattle.text.specs.TextAnswer.{text_answer}
use Rattle.std.proofs.lemmas.Bool.{cases_lt}
use Rattle.std.proofs.lemmas.List.{map-id}
use Rattle.judgement.proofs.AtSites.{word_tells}
use Rattle.field.specs.Field.{blank_site}
use Rattle.numbers.specs.TwoBytes.{AllBytes}
use Rattle.field.proofs.All.{all_at}
use Rattle.std.specs.Prelude.{Ok}
use Rattle.record.specs.File.{contents}
use Rattle.record.proofs.SiteFile.{sites_checked, sites_pairs}
use Rattle.text.specs.declared.Row.{Row}
use Rattle.text.specs.Line.{blank_row}
use Rattle.text.specs.Words.{split, line_at, free}
use Rattle.text.specs.Marks.{Plain}
use Rattle.text.proofs.WordLaws.{split-each}
use Rattle.text.proofs.TextAnswers.{answered}
use Rattle.listing.specs.Rows.{row_of}
use Rattle.listing.specs.PrintedDemand3.{TextSays}
use Rattle.listing.proofs.ListLaws.{FileClauses, filed_sites}
use Rattle.listing.proofs.Demand3Laws.{passed, row_at, plain}
use Rattle.listing.proofs.ReportLaws.{marks_stay}
use Rattle.columns.specs.PageLine.{page_line, head_line, row_line, ended}
use Rattle.columns.specs.LineRead.{columns_of}
use Rattle.pages.specs.Pages.{lines_to, page_count, pages, pages_of, most_pages}
use Rattle.pages.specs.PagesDemand3.{verdict_column, shown, site_line, PagesSay, PagesNeverWorse}
use Rattle.columns.proofs.PageLineLaws.{length_page_line, last_space, free_head, free_row}
use Rattle.pages.proofs.PageLaws.{length_lines, header_at, site_at_lem}
use Rattle.pages.proofs.WrittenPages.{length-pages}
use Rattle.pages.proofs.SiteColumns.{row_shown, line_shows}

-- all lines of the pages
abbrev all_lines : List Row → List (List ℕ)
all_lines rs = lines_to rs (page_count (length rs))

module _ (rs : List Row) where
  -- every line is a header or a row's
  each_line : (P : List ℕ → Type 0) → P head_line → ((k : ℕ) → k < length rs → P (row_line (get_or rs k blank_row)))
      → (i : ℕ) → i < length rs + page_count (length rs) → P (get_or (all_lines rs) i [])
  each_line P head row i h = ⊎_elim first under (cases_lt (i % 60) 1)
    where
      first : i % 60 < 1 → P (get_or (all_lines rs) i [])
      first z =
          let e : i ≡ 60 * (i / 60) + 0 = omega arith in
          rw e (rw (header_at rs (i / 60) (omega arith)) head)

      under : 1 ≤ i % 60 → P (get_or (all_lines rs) i [])
      under z =
          let k = 59 * (i / 60) + (i % 60 - 1) in
          let inside : k < length rs = omega arith in
          let e : i ≡ 60 * (k / 59) + (k % 59 + 1) = omega arith in
          rw e (rw (site_at_lem rs k blank_row inside) (row k inside))

  wide_lines : (i : ℕ) → i < length rs + page_count (length rs) → length (get_or (all_lines rs) i []) ≡ 64
  unfolding head_line row_line
  wide_lines = each_line (λ l. length l ≡ 64) (length_page_line _) (λ k h. length_page_line _)

  space_lines : (i : ℕ) → i < length rs + page_count (length rs) → get_or (get_or (all_lines rs) i []) 63 0 ≡ 32
  unfolding head_line row_line
  space_lines = each_line (λ l. get_or l 63 0 ≡ 32) (last_space _) (λ k h. last_space _)

-- ---- the pages, cut at each 0A, are their lines

module _ (rs : List Row) (names : Plain rs) where
  split-pages : split 10 (pages rs) ≡ all_lines rs ++ ([] ∷ [])
  unfolding pages ended
  split-pages =
      split-each 10 (λ (l : List ℕ). l) ended (λ l. refl) (all_lines rs) []
      (λ i h. each_line rs (λ l. free 10 l ≡ true) free_head (λ k g. free_row _ (names k g)) i (omega (arith, length_lines rs)))
      ∙ ap (λ (ls : List (List ℕ)). ls ++ ([] ∷ [])) (map-id (all_lines rs))

  line_is : (i : ℕ) → i < length rs + page_count (length rs) → line_at i (pages rs) ≡ get_or (all_lines rs) i []
  unfolding line_at
  line_is i h =
      ap (λ (t : List (List ℕ)). get_or t i []) split-pages
      ∙ get_or-append (all_lines rs) ([] ∷ []) [] i (omega (arith, length_lines rs))

module _ (list f : List ℕ) (listed : AllBytes list) (bytes : AllBytes f) (ss : List Site) (e : contents list f ≡ Ok ss) where
  rows : List Row
  rows = map (row_of list) ss

  count : length rows ≡ length ss
  unfolding rows
  count = length-map ss (row_of list)

  names : Plain rows
  unfolding rows
  names = plain list f ss e

  site_line_lem : (k : ℕ) → k < length ss → site_line k (pages rows) ≡ page_line (shown list (get_or ss k blank_site))
  unfolding rows
  site_line_lem k h =
      line_is rows names (60 * (k / 59) + (k % 59 + 1)) (omega (arith, count))
      ∙ site_at_lem rows k blank_row (omega (arith, count))
      ∙ ap row_line (row_at list f ss e k h)
      ∙ row_shown list (get_or ss k blank_site)

  site_columns : (k : ℕ) → k < length ss → columns_of (site_line k (pages rows)) ≡ shown list (get_or ss k blank_site)
  site_columns k h =
      let s = get_or ss k blank_site in
      ap columns_of (site_line_lem k h) ∙ line_shows list listed s (passed list f ss e k h) (all_at (sites_pairs list f bytes ss e) k blank_site h)

  pub pages_say : PagesSay list ss (pages_of list ss)
  unfolding rows line_at shown
  pages_say = record {
    last_page = (omega arith, omega arith);
    lines = ap length (split-pages rows names) ∙ length-append (all_lines rows) ([] ∷ []) ∙ omega (arith, length_lines rows, count);
    nothing_behind =
        let last : length ss + page_count (length ss) ≡ length (all_lines rows) = omega (arith, length_lines rows, count) in
        rw last (ap (λ (t : List (List ℕ)). get_or t (length (all_lines rows)) []) (split-pages rows names) ∙ get_or-append_seam (all_lines rows) [] [] []);
    wide = λ i h. ap length (line_is rows names i (omega (arith, count))) ∙ wide_lines rows i (omega (arith, count));
    space = λ i h. ap (λ (l : List ℕ). get_or l 63 0) (line_is rows names i (omega (arith, count))) ∙ space_lines rows i (omega (arith, count));
    header = λ p h. line_is rows names (60 * p + 0) (omega (arith, count)) ∙ header_at rows p (omega (arith, count));
    placed = site_line_lem;
    values = site_columns;
    says = λ k h. rw (site_columns k h) (word_tells list (get_or ss k blank_site) (passed list f ss e k h) _ _);
  }

-- less deposition is never worse, on all pages of which the above holds
pub pages_stay : (list f x g y : List ℕ) → TextSays PagesSay list f x → TextSays PagesSay list g y → PagesNeverWorse list f x g y
pages_stay list f x g y df dg = marks_stay (λ (k : ℕ) (t : List ℕ). verdict_column (site_line k t)) list f x g y (λ ss h. (df ss h).says) (λ ss h. (dg ss h).says)

-- ---- the clauses of the call

module _ (list f : List ℕ) (listed : AllBytes list) (bytes : AllBytes f) (d : List ℕ) (ss : List Site) (h : contents list f ≡ Ok ss) where
  most_is : length (pages_of list ss) ≤ most_pages
  most_is = omega (arith, length-pages (map (row_of list) ss), length-map ss (row_of list), (sites_checked list f ss h).0)

  pub paged : {e : List ℕ} {r : Written} → r ≡ text_answer (pages_of list ss) d → e ≡ held (pages_of list ss) d → FileClauses most_pages (pages_of list) PagesSay list f d e r
  paged a b = filed_sites most_pages (pages_of list) PagesSay list f d ss h (answered (pages_of list ss) d a b most_is) (pages_say list f listed bytes ss h)
