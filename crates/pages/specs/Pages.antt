-- The listing as pages of 60 lines: under the header of each stand 59 sites, on the last what is left.
use Rattle.std.specs.Prelude.{ℕ, zero, suc, ◌+◌, ◌*◌, List, [], ◌∷◌, ◌++◌, map, length, take, drop, flat_map}
use Rattle.std.specs.Int.{div_ceil}
use Rattle.site.specs.Ranges.{most_records}
use Rattle.site.specs.declared.Site.{Site}
use Rattle.text.specs.declared.Row.{Row}
use Rattle.listing.specs.Rows.{row_of}
use Rattle.columns.specs.PageLine.{head_line, row_line, ended}

-- the lines of page p; the first page is page 0
unfoldable pub lines_on : List Row → ℕ → List (List ℕ)
lines_on rs p = head_line ∷ map row_line (take 59 (drop (59 * p) rs))

-- the lines of the first n pages
unfoldable pub lines_to : List Row → ℕ → List (List ℕ)
lines_to rs zero = []
lines_to rs (suc n) = lines_to rs n ++ lines_on rs n

-- how many pages n sites take
abbrev pub page_count : ℕ → ℕ
page_count n = div_ceil n 59

unfoldable pub pages : List Row → List ℕ
pages rs = flat_map ended (lines_to rs (page_count (length rs)))

-- the pages of the sites of a file, with the list that is lent
abbrev pub pages_of : List ℕ → List Site → List ℕ
pages_of list ss = pages (map (row_of list) ss)

-- those of 500 sites, each line with its 0A; 33085
abbrev pub most_pages : ℕ
most_pages = 65 * (most_records + page_count most_records)
