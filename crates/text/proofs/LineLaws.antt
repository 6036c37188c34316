-- The lengths of a line, a listing and a refusal.
use Prim.Native.Nat.{ℕ, ◌+◌}
use mathlib.Core.Path.{◌≡◌, ap}
use mathlib.Core.List.{List}
use native.Mathlib.Omega.{arith}
use lib.ListN.{length, length-append}
use Rattle.site.specs.declared.Rule.{Rule}
use Rattle.site.specs.Refusal.{rule_number}
use Rattle.text.specs.declared.Row.{Row}
use Rattle.text.specs.Decimal.{decimal}
use Rattle.std.specs.Prelude.{flat_map}
use Rattle.std.proofs.lemmas.List.Concat.{length-flat_map}
use Rattle.judgement.specs.Verdicts.{verdict_word}
use Rattle.text.specs.Line.{numbers_of, name_text, spaced, column, body, line}
use Rattle.text.specs.Listing.{head_text, header, listing}
use Rattle.text.specs.RefusalLine.{refusal, refused_line, refused_word, at_word}

pub length-line : (r : Row) → length (line r) ≡ length (name_text r) + length (flat_map column (numbers_of r)) + length (verdict_word r.verdict) + 2
unfolding line body spaced
length-line r = simp length-append (omega arith)

pub length-listing : (rs : List Row) → length (listing rs) ≡ 51 + length (flat_map line rs)
unfolding listing header head_text
length-listing rs = omega arith

pub length-refusal : (n at : ℕ) → length (refused_line n at) ≡ 13 + length (decimal n) + length (decimal at)
unfolding refused_line refused_word at_word
length-refusal n at = simp length-append (omega arith)

pub refusal_is : (rule : Rule) (at : ℕ) {n : ℕ} → n ≡ rule_number rule → refused_line n at ≡ refusal rule at
unfolding refusal
refusal_is rule at e = ap (λ (k : ℕ). refused_line k at) e

-- the first two, and the length of the texts of a list's elements
pub ruleset line_lengths = (length-line, length-listing, length-flat_map)
