-- A result below 2³² is a count and any other a refusal, since no count reaches 2³² and every rule has a number from 1 on.
use Prim.Native.Nat.{ℕ, ◌≤◌, ◌<◌}
use mathlib.Core.Path.{◌≡◌, ◌∙◌}
use native.Mathlib.Omega.{arith}
use native.Mathlib.Nat.{mod-eq_of_lt}
use Rattle.std.specs.Prelude.{Ok, Err}
use Rattle.site.specs.Refusal.{rule_number}
use Rattle.site.specs.declared.Rule.{Rule}
use Rattle.site.specs.declared.Rule.TheVariants.{NoBytes, OuterCut, OuterTag, TooMany, InnerCut, InnerTag, BadLength, OutOfRange, NotRising, SharesNotWhole, BufferShort, BadConcentration, NoReading, PairTooLarge, BadList, NotListed, NotConvertible, LoadBelowZero}
use Rattle.output.specs.Output.{Written}
use Rattle.exports.specs.Codes.{code_base, written_code, Decodes, Small}

-- the rules' numbers are 1 to 21
pub number_range : (r : Rule) → (1 ≤ rule_number r) × (rule_number r ≤ 21)
number_range NoBytes = (omega arith, omega arith)
number_range OuterCut = (omega arith, omega arith)
number_range OuterTag = (omega arith, omega arith)
number_range TooMany = (omega arith, omega arith)
number_range InnerCut = (omega arith, omega arith)
number_range InnerTag = (omega arith, omega arith)
number_range BadLength = (omega arith, omega arith)
number_range OutOfRange = (omega arith, omega arith)
number_range NotRising = (omega arith, omega arith)
number_range SharesNotWhole = (omega arith, omega arith)
number_range BufferShort = (omega arith, omega arith)
number_range BadConcentration = (omega arith, omega arith)
number_range NoReading = (omega arith, omega arith)
number_range PairTooLarge = (omega arith, omega arith)
number_range BadList = (omega arith, omega arith)
number_range NotListed = (omega arith, omega arith)
number_range NotConvertible = (omega arith, omega arith)
number_range LoadBelowZero = (omega arith, omega arith)

-- a number below 2³² is a count
pub count_below : (l : Written) {r : ℕ} → r ≡ written_code l → r < code_base → l ≡ Ok r
unfolding written_code
count_below (Ok n) e h = rw e
count_below (Err k) e h = absurd (omega (arith, (number_range k.rule).0))

-- what the number says of an answer that it has room for
pub decodes : (answer : Written) {l : Written} {r : ℕ} → l ≡ answer → r ≡ written_code l → Small l → Decodes answer r
unfolding written_code
decodes answer {l} {r} is e small =
    let made : Decodes l r = record {
      below = count_below l e;
      count = λ n q. (rw q at e, rw (rw q at e) (small.count n q));
      refusal = λ k q. (rw q at e ∙ rw (mod-eq_of_lt (small.offset k q)), small.offset k q);
    } in
    rw is at made
