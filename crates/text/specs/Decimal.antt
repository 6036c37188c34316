-- A number in decimal, with no leading zeros.
use Rattle.std.specs.Prelude.{ℕ, zero, suc, ◌+◌, ◌/◌, ◌%◌, true, false, List, [], ◌∷◌, ◌++◌, ltb}

-- A number below 10 is its digit; any other is the digits of its tenth, then its last digit. The first argument bounds the steps.
unfoldable pub dec : ℕ → ℕ → List ℕ
dec zero n = (48 + n) ∷ []
dec (suc f) n = elim (ltb n 10) [ true ↦ (48 + n) ∷ [] | false ↦ dec f (n / 10) ++ ((48 + n % 10) ∷ []) ]

unfoldable pub decimal : ℕ → List ℕ
decimal n = dec n n
