-- The line of a refusal: `refused N at M`.
use Rattle.std.specs.Prelude.{ℕ, List, ◌++◌, codes}
use Rattle.site.specs.declared.Rule.{Rule}
use Rattle.site.specs.Refusal.{rule_number}
use Rattle.text.specs.Decimal.{decimal}

unfoldable pub refused_word : List ℕ
refused_word = codes "refused "

unfoldable pub at_word : List ℕ
at_word = codes " at "

unfoldable pub refused_line : ℕ → ℕ → List ℕ
refused_line n at = refused_word ++ decimal n ++ at_word ++ decimal at ++ codes "\n"

unfoldable pub refusal : Rule → ℕ → List ℕ
refusal rule at = refused_line (rule_number rule) at
