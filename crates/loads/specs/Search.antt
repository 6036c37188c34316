-- The search for the greatest allowed level: the levels that it compares with the aluminium limit, in their order, and what it gives.
use Rattle.std.specs.Prelude.{ℕ, zero, suc, ◌+◌, ◌-◌, ◌/◌, ◌≤◌, Bool, ◌↔◌, ◌≡◌, List, [], ◌∷◌, leb, length, Result, Ok, Err}
use Rattle.site.specs.Choice.{pick}
use Rattle.site.specs.Refusal.{and_then, refusal_values, Checked}
use Rattle.site.specs.Ranges.{percolation_range, gibbsite_range, ceiling_range}
use Rattle.site.specs.Values.{between}
use Rattle.site.specs.declared.Rule.{Rule}
use Rattle.loads.specs.declared.Searched.{Searched}
use Rattle.loads.specs.Terms.{Terms}
use Rattle.loads.specs.Hydrogen.{al_of, within_limit, level_of, greatest_level}

-- Always the mean, down, of low, the greatest level known allowed, and high, the least known not, until these are neighbours. The mean takes the place of
-- low where it is allowed, else of high. Each step brings the two nearer, so as many steps as they lie apart are enough.
unfoldable pub means_in : (steps : ℕ) → (ℕ → Bool) → (low high : ℕ) → List ℕ
means_in zero allowed low high = []
means_in (suc n) allowed low high =
    let middle = (low + high) / 2 in
    let above = means_in n allowed middle high in
    let below = means_in n allowed low middle in
    let rest = pick (allowed middle) above below in
    pick (leb high (low + 1)) [] (middle ∷ rest)

-- `means_end`, `means_raised` and `means_lowered` in `proofs/SearchLaws.antt` say what it is, without steps
unfoldable pub means : (ℕ → Bool) → (low high : ℕ) → List ℕ
means allowed low high = means_in (high - low) allowed low high

-- the ceiling first and, only if it is not allowed, the means between 0, which is not compared, and the ceiling
unfoldable pub compared_of : (q k limit ceiling : ℕ) → List ℕ
compared_of q k limit ceiling = ceiling ∷ pick (within_limit q k limit ceiling) [] (means (within_limit q k limit) 0 ceiling)

-- the greatest allowed level, and how many levels were compared
unfoldable pub searched_of : (q k limit ceiling : ℕ) → Searched
searched_of q k limit ceiling = record { level = level_of q k limit ceiling; compared = length (compared_of q k limit ceiling) }

-- how many they are: 1 exactly where the ceiling is allowed, and never more than 14
pub record FewCompared (q k limit ceiling compared : ℕ) : Type 0 where
  pub one : (compared ≡ 1) ↔ (al_of q k ceiling ≤ limit)
  pub most : compared ≤ 14

-- rule 8 for the numbers of the search
unfoldable pub level_rule : (q k ceiling : ℕ) → Checked
level_rule q k ceiling = and_then (between percolation_range q) (and_then (between gibbsite_range k) (between ceiling_range ceiling))

unfoldable pub level_answer : (q k limit ceiling : ℕ) → Result Searched Rule
level_answer q k limit ceiling = and_then (level_rule q k ceiling) (Ok (searched_of q k limit ceiling))

-- the level, and how many levels were compared
unfoldable pub searched_numbers : Searched → List ℕ
searched_numbers f = f.level ∷ f.compared ∷ []

-- the values of each case: those two numbers, or the refusal's number and offset
unfoldable pub level_values : Result Searched Rule → List ℕ
level_values (Ok f) = searched_numbers f
level_values (Err r) = refusal_values r

-- ---- with the terms of a site

unfoldable pub levels_compared : Terms → List ℕ
levels_compared t = compared_of t.Q t.K t.A t.H

unfoldable pub searched_at : Terms → Searched
searched_at t = searched_of t.Q t.K t.A t.H

-- the greatest allowed level, and how many levels are compared
unfoldable pub level_numbers : Terms → List ℕ
level_numbers t = greatest_level t ∷ length (levels_compared t) ∷ []

abbrev pub FewAt : Terms → (compared : ℕ) → Type 0
FewAt t = FewCompared t.Q t.K t.A t.H
