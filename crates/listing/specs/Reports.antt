-- What is listed and what is printed for a file, with the list that is lent.
use Rattle.std.specs.Prelude.{ℕ, List, map, Ok, Err}
use Rattle.text.specs.Listing.{listing}
use Rattle.text.specs.RefusalLine.{refusal}
use Rattle.site.specs.declared.Site.{Site}
use Rattle.record.specs.File.{Contents, contents}
use Rattle.listing.specs.Rows.{row_of}

-- the listing of the sites of a file
abbrev pub listing_of : List ℕ → List Site → List ℕ
listing_of list ss = listing (map (row_of list) ss)

-- what the program prints: the listing, or the line of the refusal
unfoldable pub printed : List ℕ → Contents Site → List ℕ
printed list (Ok ss) = listing_of list ss
printed list (Err r) = refusal r.rule r.at

unfoldable pub report_of : (list f : List ℕ) → List ℕ
report_of list f = printed list (contents list f)
