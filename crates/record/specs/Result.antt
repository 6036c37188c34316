-- What reading gives: a value, or the refusal, which is the rule that is broken first and where.
use Rattle.std.specs.Prelude.{ℕ, Result, Ok, Err}
use Rattle.site.specs.Refusal.{rule_number}
use Rattle.site.specs.declared.Refusal.{Refusal}

-- 01's number of the rule, and the offset; 0 and 0 where there is a value
unfoldable pub result_numbers : {A : Type 0} → Result A Refusal → ℕ × ℕ
result_numbers (Ok x) = (0, 0)
result_numbers (Err r) = (rule_number r.rule, r.at)
