-- What stands on the pages, and demand 3 there.
use Rattle.std.specs.Prelude.{ℕ, ◌+◌, ◌*◌, ◌/◌, ◌%◌, ◌≤◌, ◌<◌, ◌≡◌, List, [], ◌∷◌, length, get_or, take}
use Rattle.site.specs.declared.Site.{Site}
use Rattle.loads.specs.SiteTerms.{terms_of}
use Rattle.loads.specs.MaxS.{cl_max_s}
use Rattle.loads.specs.CriticalLoads.{cl_min_n, cl_max_n, cl_nut_n}
use Rattle.judgement.specs.Regions.{region_number}
use Rattle.judgement.specs.Verdicts.{region, acid_exceedance, nutrient_exceedance, verdict, verdict_word}
use Rattle.judgement.specs.Balance.{Says}
use Rattle.field.specs.Field.{blank_site}
use Rattle.text.specs.Decimal.{decimal}
use Rattle.text.specs.Words.{split, line_at}
use Rattle.listing.specs.PrintedDemand3.{MarksNeverWorse}
use Rattle.columns.specs.PageLine.{page_line, head_line}
use Rattle.columns.specs.LineRead.{columns_of}
use Rattle.pages.specs.Pages.{page_count}

-- the column of the verdict, without its spaces
abbrev pub verdict_column : List ℕ → List ℕ
verdict_column l = get_or (columns_of l) 8 []

-- what the columns of a site's line show with the list that is lent, each value whole
unfoldable pub shown : List ℕ → Site → List (List ℕ)
shown list s =
    let t = terms_of list s in
    let S = s.sulphur in
    let N = s.nitrogen in
    take s.name.len s.name.bytes
    ∷ decimal (cl_max_s t) ∷ decimal (cl_min_n t) ∷ decimal (cl_max_n t) ∷ decimal (cl_nut_n t)
    ∷ decimal (region_number (region t S N)) ∷ decimal (acid_exceedance t S N) ∷ decimal (nutrient_exceedance t N)
    ∷ verdict_word (verdict t S N)
    ∷ []

-- line l of page p of a text, each counted from 0; before the last page every page has 60 lines
abbrev pub on_page : (p l : ℕ) → List ℕ → List ℕ
on_page p l t = line_at (60 * p + l) t

-- the line of site k, which stands on page k / 59, line k mod 59 + 1; the first site is site 0
abbrev pub site_line : ℕ → List ℕ → List ℕ
site_line k t = on_page (k / 59) (k % 59 + 1) t

-- The sites ss take so many pages that the last has 1 to 59 of them. Their pages t have a line for each page's header and for each site, and nothing
-- behind the last 0A; a line has 64 characters, of which the last is a space. A site's line is its values in their columns, which show them whole, and
-- the verdict's says whether the balances close.
pub record PagesSay (list : List ℕ) (ss : List Site) (t : List ℕ) : Type 0 where
  pub last_page : (length ss ≤ 59 * page_count (length ss)) × (59 * page_count (length ss) < length ss + 59)
  pub lines : length (split 10 t) ≡ length ss + page_count (length ss) + 1
  pub nothing_behind : line_at (length ss + page_count (length ss)) t ≡ []
  pub wide : (i : ℕ) → i < length ss + page_count (length ss) → length (line_at i t) ≡ 64
  pub space : (i : ℕ) → i < length ss + page_count (length ss) → get_or (line_at i t) 63 0 ≡ 32
  pub header : (p : ℕ) → p < page_count (length ss) → on_page p 0 t ≡ head_line
  pub placed : (k : ℕ) → k < length ss → site_line k t ≡ page_line (shown list (get_or ss k blank_site))
  pub values : (k : ℕ) → k < length ss → columns_of (site_line k t) ≡ shown list (get_or ss k blank_site)
  pub says : (k : ℕ) → k < length ss → Says list (verdict_column (site_line k t)) (get_or ss k blank_site)

-- less deposition is never worse: the verdict's column of the site's line
abbrev pub PagesNeverWorse : (list f x g y : List ℕ) → Type 0
PagesNeverWorse list f x g y = MarksNeverWorse (λ (k : ℕ) (t : List ℕ). verdict_column (site_line k t)) list f x g y
