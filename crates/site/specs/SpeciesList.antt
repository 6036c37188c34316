-- A list of species (document 02, E6): entries of ten bytes, each a number and then the contents Ca, Mg, K, N, two bytes each; rule 15, and where a number
-- stands.
use Rattle.std.specs.Prelude.{ℕ, zero, suc, ◌+◌, ◌*◌, ◌/◌, ◌≤◌, ◌<◌, ◌≡◌, ◌⊎◌, Bool, not, ◌&&◌, List, leb, ltb, eqb, length, Ok, Err}
use Rattle.numbers.specs.TwoBytes.{word_at}
use Rattle.site.specs.Choice.{pick}
use Rattle.site.specs.Ranges.{listed_range}
use Rattle.site.specs.Refusal.{Checked}
use Rattle.site.specs.declared.Rule.TheVariants.{BadList}

-- the whole entries, and the number of entry i
abbrev pub entry_count : List ℕ → ℕ
entry_count l = length l / 10

abbrev pub number_at : List ℕ → ℕ → ℕ
number_at l i = word_at l (10 * i)

-- the least number that entry i may have: 256, or one above that of the entry before it
unfoldable pub least_at : List ℕ → ℕ → ℕ
least_at l zero = listed_range.least
least_at l (suc i) = number_at l i + 1

-- an entry is good, where those before it are: its number is above the one before, from 256 on, and at most 1023
unfoldable pub good_entry : List ℕ → ℕ → Bool
good_entry l i = leb (least_at l i) (number_at l i) && leb (number_at l i) listed_range.most

-- the least number below n that fails a test, and n where none does
unfoldable pub first_failing : (ℕ → Bool) → ℕ → ℕ
first_failing test zero = 0
first_failing test (suc n) = pick (test 0) (suc (first_failing (λ k. test (suc k)) n)) 0

-- the first entry that is not good; where all whole entries are, what is left of a broken one, or the end
unfoldable pub first_bad : List ℕ → ℕ
first_bad l = first_failing (good_entry l) (entry_count l)

-- rule 15, and the offset of that entry
unfoldable pub list_rule : List ℕ → Checked
list_rule l = pick (eqb (10 * first_bad l) (length l)) (Ok tt) (Err BadList)

unfoldable pub list_fault : List ℕ → ℕ
list_fault l = 10 * first_bad l

-- the entry with a number, or how many entries there are where none has it
unfoldable pub place_of : List ℕ → ℕ → ℕ
place_of l number = first_failing (λ i. not (eqb (number_at l i) number)) (entry_count l)

unfoldable pub lists : List ℕ → ℕ → Bool
lists l number = ltb (place_of l number) (entry_count l)

-- ---- rule 15 as conditions, in document 02's words

-- the numbers of the first n entries lie in 256 to 1023 and rise strictly
pub record Rises (l : List ℕ) (n : ℕ) : Type 0 where
  pub inside : (i : ℕ) → i < n → (listed_range.least ≤ number_at l i) × (number_at l i ≤ listed_range.most)
  pub rises : (i j : ℕ) → i < j → j < n → number_at l i < number_at l j

-- a good list: whole entries, all of whose numbers do
pub record GoodList (l : List ℕ) : Type 0 where
  pub whole : length l ≡ 10 * entry_count l
  pub numbers : Rises l (entry_count l)

-- what can be wrong with entry i: 1 to 9 bytes are all that is left of it, its number is not above the one before, or outside 256 to 1023
pub data BadEntry (l : List ℕ) (i : ℕ) : Type 0 where
  broken : 10 * i < length l → length l < 10 * i + 10 → BadEntry l i
  outside : 10 * i + 10 ≤ length l → (number_at l i < listed_range.least) ⊎ (listed_range.most < number_at l i) → BadEntry l i
  not_rising : 10 * i + 10 ≤ length l → (j : ℕ) → i ≡ suc j → number_at l i ≤ number_at l j → BadEntry l i

-- the first bad entry of a list, at an offset: those before it are good
pub record FirstBad (l : List ℕ) (at : ℕ) : Type 0 where
  pub entry : ℕ
  pub offset : at ≡ 10 * entry
  pub before : Rises l entry
  pub here : BadEntry l entry
