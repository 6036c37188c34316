-- From the rows of a file to what is listed and printed.
use Prim.Native.Nat.{ℕ, ◌≤◌}
use mathlib.Core.Path.{◌≡◌, refl, sym, ◌∙◌}
use mathlib.Core.List.{List, map}
use native.Mathlib.Omega.{arith}
use lib.ListN.{length, length-map}
use Rattle.site.specs.declared.Site.{Site}
use Rattle.std.specs.Prelude.{Ok, Err}
use Rattle.site.specs.declared.Refusal.{Refusal}
use Rattle.text.specs.declared.Row.{Row}
use Rattle.text.specs.TextLengths.{most_text}
use Rattle.text.specs.Listing.{listing}
use Rattle.text.specs.RefusalLine.{refusal}
use Rattle.output.specs.Output.{Written, held, written_numbers}
use Rattle.text.specs.TextAnswer.{text_answer, RoomEnough}
use Rattle.text.proofs.TextAnswers.{AnsweredWithin, Answered, Clauses, clauses_then, by_clauses, answered, written}
use Rattle.record.specs.File.{Contents, made_of, contents}
use Rattle.record.proofs.SiteFile.{sites_checked}
use Rattle.listing.specs.Rows.{row_of, walked_of}
use Rattle.listing.specs.FileText.{file_answer, file_numbers, file_held, FileRoom}
use Rattle.listing.specs.Reports.{listing_of, printed, report_of}
use Rattle.listing.specs.PrintedDemand3.{LinesSay, WrittenSays, WrittenDemand3}
use Rattle.listing.proofs.FileWrittenLaws.{FileWritten, file_written, file_refused}
use Rattle.listing.proofs.Demand3Laws.{listing_says}

-- ---- what the walk has found

-- the rows are those of the sites that the file holds
pub record Filled (list : List ℕ) (rows : List Row) (c : Contents Site) : Type 0 where
  pub ss : List Site
  pub holds : c ≡ Ok ss
  pub lines : rows ≡ map (row_of list) ss

pub found_sites : (list : List ℕ) (c : Contents Site) {rows : List Row} → walked_of list c ≡ Ok rows → Filled list rows c
unfolding made_of
found_sites list (Ok ss) {rows} e = let same : map (row_of list) ss ≡ rows = cc in record { ss = ss; holds = refl; lines = sym same }
found_sites list (Err r) e = cc

pub found_fault : (list : List ℕ) (c : Contents Site) {r : Refusal} → walked_of list c ≡ Err r → c ≡ Err r
unfolding made_of
found_fault list (Ok ss) e = cc
found_fault list (Err k) e = cc

-- what a call has written of the rows, by the sites
pub by_sites : (list f d : List ℕ) {rows xs : List Row} {e : List ℕ} {r : Written} (x : Filled list rows (contents list f)) → xs ≡ rows
    → r ≡ text_answer (listing xs) d → e ≡ held (listing xs) d → (length xs ≤ 500 → RoomEnough (listing xs) d r) → Answered (listing (map (row_of list) x.ss)) d e r
by_sites list f d x same a b enough =
    let lines = same ∙ x.lines in
    let few : length (map (row_of list) x.ss) ≤ 500 = omega (arith, (sites_checked list f x.ss x.holds).0, length-map x.ss (row_of list)) in
    answered (listing (map (row_of list) x.ss)) d (rw lines at a) (rw lines at b) ((rw lines at enough) few).bounded

-- ---- a text of the sites, and the listing

-- a text of the sites of a file, of at most `most` bytes, that says `Say` of them: a listing of any form
module _ (most : ℕ) (text : List Site → List ℕ) (Say : List ℕ → List Site → List ℕ → Type 0) (list f d : List ℕ) where
  -- the clauses of the call that writes it
  abbrev pub FileClauses : List ℕ → Written → Type 0
  FileClauses e r =
      (r ≡ file_answer text (contents list f) d)
      × ((e ≡ file_held text (contents list f) d) × ((written_numbers r ≡ file_numbers text (contents list f) d) × (FileRoom most text (contents list f) d r × WrittenSays Say list f e r)))

  with_says : {e : List ℕ} {r : Written} → FileWritten most text (contents list f) d e r → WrittenSays Say list f e r → FileClauses e r
  with_says x says = (x.answer, (x.buffer, (x.numbers, (x.enough, says))))

  module _ (ss : List Site) (h : contents list f ≡ Ok ss) {e : List ℕ} {r : Written} (a : AnsweredWithin most (text ss) d e r) where
    says_so : Say list ss (text ss) → WrittenSays Say list f e r
    says_so says n b ts g = let same : ss ≡ ts = cc in rw (written (text ss) d e r a.answer a.buffer n b, ← same) says

    pub filed_sites : Say list ss (text ss) → FileClauses e r
    filed_sites says = with_says (file_written most text (contents list f) d ss h a) (says_so says)

  pub filed_fault : {k : Refusal} → contents list f ≡ Err k → FileClauses d (Err k)
  filed_fault h = with_says (file_refused most text (contents list f) d h) (λ n b. cc)

-- the listing
pub listed_sites : (list f d : List ℕ) {e : List ℕ} {r : Written} (ss : List Site) → contents list f ≡ Ok ss → Answered (listing_of list ss) d e r → FileClauses most_text (listing_of list) LinesSay list f d e r
listed_sites list f d ss h a = filed_sites most_text (listing_of list) LinesSay list f d ss h a (listing_says list f ss h)

-- ---- the report

-- the clauses of the call that reports
abbrev pub Reported : (list f d e : List ℕ) → Written → Type 0
Reported list f d e r = Clauses (report_of list f) d e r (RoomEnough (report_of list f) d r × WrittenDemand3 list f e r)

reported : (list f d : List ℕ) {e : List ℕ} {r : Written} → Answered (report_of list f) d e r → WrittenDemand3 list f e r → Reported list f d e r
reported list f d a w = clauses_then a w

pub reported_sites : (list f d : List ℕ) {e : List ℕ} {r : Written} (ss : List Site) → contents list f ≡ Ok ss → Answered (listing (map (row_of list) ss)) d e r → Reported list f d e r
unfolding report_of printed
reported_sites list f d ss h a = reported list f d (rw h a) (says_so most_text (listing_of list) LinesSay list f d ss h a (listing_says list f ss h))

pub reported_fault : (list f d : List ℕ) {e : List ℕ} {r : Written} {k : Refusal} → contents list f ≡ Err k → Clauses (refusal k.rule k.at) d e r (RoomEnough (refusal k.rule k.at) d r) → Reported list f d e r
unfolding report_of printed
reported_fault list f d h a = reported list f d (rw h (by_clauses a)) (λ n b ss g. (let z = sym h ∙ g in cc))
