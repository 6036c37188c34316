-- The walk over a file a record at a time: what one step gives, where the next one starts, and what is still to come.
use Rattle.std.specs.Prelude.{ℕ, ◌+◌, ◌-◌, ◌≡◌, List, [], leb, eqb, length, Option, Some, None, Result, Ok, Err}
use Rattle.site.specs.Choice.{pick}
use Rattle.site.specs.declared.RecordKind.{RecordKind}
use Rattle.site.specs.declared.Site.{Site}
use Rattle.site.specs.declared.Refusal.{Refusal}
use Rattle.site.specs.declared.Rule.TheVariants.{TooMany}
use Rattle.record.specs.declared.records.Records.{Records}
use Rattle.record.specs.declared.found.FieldsFound.{FieldsFound}
use Rattle.loads.specs.declared.passed.PassedSite.{PassedSite}
use Rattle.record.specs.Outer.{site_to}
use Rattle.record.specs.File.{Contents, first, walk_file}

-- a record whose fields are accepted, by its site and where the next one starts
abbrev pub found_in : FieldsFound → Site × ℕ
found_in x = (x.checked.site, x.next)

-- what a step gives, by its site
unfoldable pub site_of : Result (Option PassedSite) Refusal → Result (Option Site) Refusal
site_of (Ok (Some p)) = Ok (Some p.site)
site_of (Ok None) = Ok None
site_of (Err r) = Err r

-- ---- a step in a file of len bytes, by what `read` gives of a record: n records may still come, and the next one starts at offset `at`

-- at the end of the file a, where no record more may come b, else c
abbrev pub by_place : {A : Type 0} → (len n at : ℕ) → (a b c : A) → A
by_place len n at a b c = pick (leb len at) a (pick (eqb n 0) b c)

-- what it gives: none at the end, 4 where no more may come, else the record there or its fault
abbrev pub some_of : Result (Site × ℕ) Refusal → Result (Option Site) Refusal
some_of (Ok x) = Ok (Some x.0)
some_of (Err r) = Err r

unfoldable pub step_of : (ℕ → Result (Site × ℕ) Refusal) → (len n at : ℕ) → Result (Option Site) Refusal
step_of read len n at = by_place len n at (Ok None) (Err (record { rule = TooMany; at = at })) (some_of (read at))

-- how many may come after it, and where the next one starts: as before it, but after a record
abbrev pub behind : (n at : ℕ) → Result (Site × ℕ) Refusal → ℕ × ℕ
behind n at (Ok x) = (n - 1, x.1)
behind n at (Err r) = (n, at)

unfoldable pub after_step : (ℕ → Result (Site × ℕ) Refusal) → (len n at : ℕ) → ℕ × ℕ
after_step read len n at = by_place len n at (n, at) (n, at) (behind n at (read at))

-- ---- the walk

-- the file, the list that is lent with it, the newest kind that is known, how many records may still come, and the offset of the next one
abbrev pub file_in : Records → List ℕ
file_in r = r.file.now

abbrev pub list_in : Records → List ℕ
list_in r = r.list.bytes.now

abbrev pub newest_in : Records → RecordKind
newest_in r = r.newest

abbrev pub may_come : Records → ℕ
may_come r = r.left

abbrev pub next_at : Records → ℕ
next_at r = r.at

-- what is still to come
abbrev pub sites_from : RecordKind → (list f : List ℕ) → ℕ → ℕ → Contents Site
sites_from newest list f n at = walk_file (site_to newest list f) (length f) n at

abbrev pub unread : Records → Contents Site
unread r = sites_from (newest_in r) (list_in r) (file_in r) (may_come r) (next_at r)

-- what was to come, by what a step gave and what comes after it
unfoldable pub came : Result (Option Site) Refusal → Contents Site → Contents Site
came (Ok None) rest = Ok []
came (Ok (Some s)) rest = first s rest
came (Err r) rest = Err r

-- how many records a step gave
abbrev pub given : Result (Option Site) Refusal → ℕ
given (Ok None) = 0
given (Ok (Some x)) = 1
given (Err r) = 0

-- a step from n and `at` to m and `to` that gave q: it gives what the file has there, and leads where it should; a step that is refused leads nowhere
pub record Steps (newest : RecordKind) (list f : List ℕ) (n at : ℕ) (q : Result (Option Site) Refusal) (m to : ℕ) : Type 0 where
  pub answer : q ≡ step_of (site_to newest list f) (length f) n at
  pub after : (m, to) ≡ after_step (site_to newest list f) (length f) n at
  pub walk : sites_from newest list f n at ≡ came q (sites_from newest list f m to)
  pub fewer : n ≡ m + given q
