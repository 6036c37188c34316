-- The refusals by number: 1 to 11 of document 01, "Where each check stands", then those of document 02; what a check says, and an answer after it.
use Rattle.std.specs.Prelude.{ℕ, List, [], ◌∷◌, Result, Ok, Err}
use Rattle.site.specs.declared.Rule.{Rule}
use Rattle.site.specs.declared.Refusal.{Refusal}
use Rattle.site.specs.declared.Rule.TheVariants.{NoBytes, OuterCut, OuterTag, TooMany, InnerCut, InnerTag, BadLength, OutOfRange, NotRising, SharesNotWhole, BufferShort, BadConcentration, NoReading, PairTooLarge, BadList, NotListed, NotConvertible, LoadBelowZero}

abbrev pub rule_number : Rule → ℕ
rule_number NoBytes = 1
rule_number OuterCut = 2
rule_number OuterTag = 3
rule_number TooMany = 4
rule_number InnerCut = 5
rule_number InnerTag = 6
rule_number BadLength = 7
rule_number OutOfRange = 8
rule_number NotRising = 9
rule_number SharesNotWhole = 10
rule_number BufferShort = 11
rule_number BadConcentration = 12
rule_number NoReading = 13
rule_number PairTooLarge = 14
rule_number BadList = 15
rule_number NotListed = 16
rule_number NotConvertible = 17
rule_number LoadBelowZero = 21

-- what a check says: it passes, or the rule that is broken
abbrev pub Checked : Type 0
Checked = Result (Unit {0}) Rule

-- the number of the refusal, and 0 where there is none
unfoldable pub checked_number : {A : Type 0} → Result A Rule → ℕ
checked_number (Ok x) = 0
checked_number (Err r) = rule_number r

-- the number of what the rules of a field, or of all fields of a site, say: 0, or 7 to 10, or 16; no other rule can come
pub data Numbered : Checked → ℕ → Type 0 where
  passes : Numbered (Ok tt) 0
  bad_length : Numbered (Err BadLength) 7
  out_of_range : Numbered (Err OutOfRange) 8
  not_rising : Numbered (Err NotRising) 9
  shares_not_whole : Numbered (Err SharesNotWhole) 10
  not_listed : Numbered (Err NotListed) 16

-- the first of two that is refused: a check, then another or a value
unfoldable pub and_then : {A : Type 0} → Checked → Result A Rule → Result A Rule
and_then (Ok tt) x = x
and_then (Err r) x = Err r

-- the same for an answer that says where: x, unless a rule is broken at `at`
unfoldable pub unless : {A : Type 0} → Checked → ℕ → Result A Refusal → Result A Refusal
unless (Ok tt) at x = x
unless (Err r) at x = Err (record { rule = r; at = at })

-- the values of a refusal as it is answered: its number, and offset 0
abbrev pub refusal_values : Rule → List ℕ
refusal_values r = rule_number r ∷ 0 ∷ []

-- the values that an answer is to have: those given, or the refusal's number and offset 0
unfoldable pub values_if : Checked → List ℕ → List ℕ
values_if (Ok tt) vs = vs
values_if (Err r) vs = rule_number r ∷ 0 ∷ []
