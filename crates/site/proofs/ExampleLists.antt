-- Lists of document 02: the number of rule 15 and the offset, or 0 and the end of a list that passes. A computed proof that the definitions give them.
use Rattle.std.specs.Prelude.{ℕ, ◌≡◌, refl, List, [], ◌∷◌, ◌++◌, map}
use Rattle.site.specs.Refusal.{checked_number}
use Rattle.site.specs.SpeciesList.{least_at, good_entry, first_failing, first_bad, list_rule, list_fault}

-- an entry by the two bytes of its number
abbrev entry : (hi lo : ℕ) → List ℕ
entry hi lo = hi ∷ lo ∷ 0 ∷ 100 ∷ 0 ∷ 200 ∷ 1 ∷ 44 ∷ 1 ∷ 144 ∷ []

abbrev lists_given : List (List ℕ)
lists_given =
    []
    ∷ entry 1 0  -- 256
    ∷ entry 3 255  -- 1023
    ∷ (entry 1 0 ++ entry 3 255)
    ∷ entry 0 255  -- 255
    ∷ entry 4 0  -- 1024
    ∷ (entry 1 0 ++ entry 4 0)
    ∷ (entry 1 44 ++ entry 1 44)  -- an equal number
    ∷ (entry 1 0 ++ entry 2 0 ++ entry 1 255)  -- a smaller one
    ∷ (1 ∷ [])  -- 1 byte
    ∷ (entry 1 0 ++ (1 ∷ 1 ∷ 0 ∷ 100 ∷ 0 ∷ 200 ∷ 1 ∷ 44 ∷ 1 ∷ []))  -- 9 bytes left
    ∷ (entry 1 0 ++ entry 0 8 ++ entry 1 0)  -- the first of two faults
    ∷ []

abbrev answers : List (ℕ × ℕ)
answers =
    (0, 0) ∷ (0, 10) ∷ (0, 10) ∷ (0, 20) ∷ (15, 0) ∷ (15, 0) ∷ (15, 10) ∷ (15, 10) ∷ (15, 20) ∷ (15, 0) ∷ (15, 10) ∷ (15, 10) ∷ []

agrees : map (λ (l : List ℕ). (checked_number (list_rule l), list_fault l)) lists_given ≡ answers
unfolding checked_number list_rule list_fault first_bad first_failing good_entry least_at
agrees = refl
