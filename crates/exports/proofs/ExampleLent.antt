-- A bad list comes ahead of an empty file: 15 at its entry, and the line that is printed. A good one leaves 1. A target of no kind comes ahead of both.
use Rattle.std.specs.Prelude.{ℕ, List, ◌≡◌, refl, Err, [], ◌∷◌, ◌++◌, codes}
use Rattle.site.specs.Refusal.{unless}
use Rattle.site.specs.SpeciesList.{least_at, good_entry, first_failing, first_bad, list_rule, list_fault}
use Rattle.site.specs.declared.Rule.TheVariants.{NoBytes, BadList}
use Rattle.record.specs.File.{contents_by, contents_to}
use Rattle.listing.specs.Reports.{printed}
use Rattle.text.specs.Decimal.{dec, decimal}
use Rattle.text.specs.RefusalLine.{refused_word, at_word, refused_line, refusal}
use Rattle.record.specs.Result.{result_numbers}
use Rattle.convert.specs.Converted.{converted}
use Rattle.exports.specs.Target.{for_target, converted_to}
use Rattle.exports.specs.Lent.{lent, lent_contents, lent_report}

abbrev entry_256 : List ℕ
entry_256 = 1 ∷ 0 ∷ 0 ∷ 1 ∷ 0 ∷ 2 ∷ 0 ∷ 3 ∷ 0 ∷ 4 ∷ []

list_first : lent_contents (entry_256 ++ entry_256) [] ≡ Err (record { rule = BadList; at = 10 })
unfolding lent unless list_rule list_fault first_bad first_failing good_entry least_at
list_first = refl

file_next : lent_contents entry_256 [] ≡ Err (record { rule = NoBytes; at = 0 })
unfolding lent unless list_rule list_fault first_bad first_failing good_entry least_at contents_by contents_to
file_next = refl

line_of_15 : lent_report (entry_256 ++ entry_256) [] ≡ codes "refused 15 at 10\n"
unfolding lent unless list_rule list_fault first_bad first_failing good_entry least_at printed refusal refused_line refused_word at_word decimal dec
line_of_15 = refl

-- the numbers for a target with a bad list and an empty file: 3 for the targets 51 and 55, 15 for 52
target_first : result_numbers (converted_to 85 (entry_256 ++ entry_256) []) ∷ result_numbers (converted_to 81 (entry_256 ++ entry_256) []) ∷ [] ≡ (3, 0) ∷ (3, 0) ∷ []
unfolding result_numbers converted_to for_target
target_first = refl

list_behind_it : result_numbers (converted_to 82 (entry_256 ++ entry_256) []) ≡ (15, 10)
unfolding result_numbers converted_to for_target converted lent unless list_rule list_fault first_bad first_failing good_entry least_at
list_behind_it = refl
