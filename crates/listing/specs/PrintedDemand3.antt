-- Demand 3 in the listing: what the last word of a record's line says, and of two records.
use Rattle.std.specs.Prelude.{ℕ, suc, ◌+◌, ◌<◌, ◌≡◌, List, [], length, get_or, take, Ok}
use Rattle.site.specs.declared.Site.{Site}
use Rattle.judgement.specs.Balance.{Says}
use Rattle.judgement.specs.Less.{Less, Stays}
use Rattle.field.specs.Field.{blank_site}
use Rattle.output.specs.Output.{Written}
use Rattle.text.specs.Listing.{head_text}
use Rattle.text.specs.Words.{split, last_word, line_at}
use Rattle.record.specs.File.{contents}

-- With the list that is lent: the text t has the header, then a line for each site of ss, and nothing behind the last 0A; the last word of each site's line says
-- whether its balances close.
pub record LinesSay (list : List ℕ) (ss : List Site) (t : List ℕ) : Type 0 where
  pub lines : length (split 10 t) ≡ length ss + 2
  pub header : line_at 0 t ≡ head_text
  pub nothing_behind : line_at (length ss + 1) t ≡ []
  pub says : (k : ℕ) → k < length ss → Says list (last_word (line_at (suc k) t)) (get_or ss k blank_site)

-- where the checks let the file f pass with a list, the text t says `Say` of its sites
abbrev pub TextSays : (List ℕ → List Site → List ℕ → Type 0) → (list f t : List ℕ) → Type 0
TextSays Say list f t = (ss : List Site) → contents list f ≡ Ok ss → Say list ss t

-- the same of the text that a call has written into a buffer
abbrev pub WrittenSays : (List ℕ → List Site → List ℕ → Type 0) → (list f out : List ℕ) → Written → Type 0
WrittenSays Say list f out r = (n : ℕ) → r ≡ Ok n → TextSays Say list f (take n out)

-- demand 3 in a listing t of the file f, and in a listing that was written: every site's line says whether its balances close
abbrev pub Demand3 : (list f t : List ℕ) → Type 0
Demand3 list f t = TextSays LinesSay list f t

abbrev pub WrittenDemand3 : (list f out : List ℕ) → Written → Type 0
WrittenDemand3 list f out r = WrittenSays LinesSay list f out r

-- Less deposition is never worse: record k of a file f and record l of a file g, files that the checks let pass with one list; the two records are one site,
-- the second with as much or less sulphur and as much or less nitrogen. Where the mark of the first one in the text x is `within`, so is that of
-- the second one in the text y, and it is not `over`. `mark` says how the mark of a record is read in a text.
abbrev pub MarksNeverWorse : (mark : ℕ → List ℕ → List ℕ) → (list f x g y : List ℕ) → Type 0
MarksNeverWorse mark list f x g y =
    (ss ts : List Site) → contents list f ≡ Ok ss → contents list g ≡ Ok ts → (k l : ℕ) → k < length ss → l < length ts
    → Less (get_or ss k blank_site) (get_or ts l blank_site)
    → Stays (mark k x) (mark l y)

-- in the listing: the last word of the record's line
abbrev pub PrintedNeverWorse : (list f x g y : List ℕ) → Type 0
PrintedNeverWorse list f x g y = MarksNeverWorse (λ (k : ℕ) (t : List ℕ). last_word (line_at (suc k) t)) list f x g y
