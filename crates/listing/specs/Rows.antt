-- What a line of the listing shows of a site with the list that is lent, and what the walk over a file answers.
use Rattle.std.specs.Prelude.{ℕ, List, Result}
use Rattle.site.specs.declared.Refusal.{Refusal}
use Rattle.site.specs.declared.Site.{Site}
use Rattle.judgement.specs.declared.Judged.{Judged}
use Rattle.judgement.specs.Answers.{judged_of}
use Rattle.text.specs.declared.Row.{Row}
use Rattle.record.specs.File.{Contents, made_of}

-- the judgement j, under the name of s
unfoldable pub row_by : Site → Judged → Row
row_by s j = record { loads = j.loads; name = s.name; verdict = j.verdict }

unfoldable pub row_of : List ℕ → Site → Row
row_of list s = row_by s (judged_of list s)

-- the rows of a file, or its first fault
abbrev pub walked_of : List ℕ → Contents Site → Result (List Row) Refusal
walked_of list c = made_of (row_of list) c
