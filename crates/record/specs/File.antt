-- A file of records, walked from the left; the first fault decides. For every kind of record.
use Rattle.std.specs.Prelude.{ℕ, zero, suc, ◌+◌, ◌*◌, List, [], ◌∷◌, leb, length, map, Result, Ok, Err}
use Rattle.site.specs.Ranges.{most_records}
use Rattle.site.specs.Choice.{pick}
use Rattle.site.specs.declared.RecordKind.{RecordKind}
use Rattle.site.specs.declared.RecordKind.TheVariants.{Tag55}
use Rattle.site.specs.declared.Site.{Site}
use Rattle.site.specs.declared.Refusal.{Refusal}
use Rattle.site.specs.declared.Rule.TheVariants.{NoBytes, TooMany}
use Rattle.record.specs.Records.{most_record}
use Rattle.record.specs.Outer.{site_to}

-- what a file holds: the values of its records, or the first refusal
abbrev pub Contents : Type 0 → Type 0
Contents A = Result (List A) Refusal

-- a value in front of those that follow
unfoldable pub first : {A : Type 0} → A → Contents A → Contents A
first x (Ok xs) = Ok (x ∷ xs)
first x (Err r) = Err r

-- a record, and what follows it from the offset after it on
unfoldable pub onto : {A : Type 0} → Result (A × ℕ) Refusal → (ℕ → Contents A) → Contents A
onto (Ok x) more = first x.0 (more x.1)
onto (Err r) more = Err r

-- what a record reader finds in a file of len bytes: n records may still come, the next one at offset `at`
unfoldable pub walk_file : {A : Type 0} → (ℕ → Result (A × ℕ) Refusal) → ℕ → ℕ → ℕ → Contents A
walk_file read len zero at = pick (leb len at) (Ok []) (Err (record { rule = TooMany; at = at }))
walk_file read len (suc n) at =
    let next = onto (read at) (λ after. walk_file read len n after) in
    pick (leb len at) (Ok []) next

-- a file of 1 to `most` records
unfoldable pub contents_by : {A : Type 0} → ℕ → (ℕ → Result (A × ℕ) Refusal) → ℕ → Contents A
contents_by most read len = pick (leb len 0) (Err (record { rule = NoBytes; at = 0 })) (walk_file read len most 0)

-- what a file holds whose only record is r
unfoldable pub alone : {A : Type 0} → Result A Refusal → Contents A
alone (Ok x) = Ok (x ∷ [])
alone (Err r) = Err r

-- what is made of the values that a file holds, an element of each; a refusal stays
unfoldable pub made_of : {A B : Type 0} → (A → B) → Contents A → Contents B
made_of make (Ok xs) = Ok (map make xs)
made_of make (Err r) = Err r

-- the bytes of a file that are looked at: 500 records of the greatest length, and one byte more; 129001
abbrev pub most_file : ℕ
most_file = most_records * most_record + 1

-- a file of site records: 1 to 500, each of a kind up to the newest, with the list that is lent
unfoldable pub contents_to : RecordKind → (list f : List ℕ) → Contents Site
contents_to newest list f = contents_by most_records (site_to newest list f) (length f)

-- of any kinds
abbrev pub contents : (list f : List ℕ) → Contents Site
contents list f = contents_to Tag55 list f
