-- What rule 8 gives of the numbers of the search, and all that the call promises.
use Prim.Native.Nat.{ℕ}
use mathlib.Core.Path.{◌≡◌, refl, sym, ◌∙◌, ap}
use mathlib.Core.List.{[], ◌∷◌}
use lib.ListN.{length}
use Rattle.site.specs.Refusal.{and_then, values_if}
use Rattle.site.specs.Ranges.{ceiling_range, percolation_range, gibbsite_range}
use Rattle.site.specs.Values.{between}
use Rattle.std.specs.Prelude.{Result, Ok}
use Rattle.site.specs.declared.Rule.{Rule}
use Rattle.site.proofs.ByCheckLaws.{given_by_lem, values_by}
use Rattle.site.proofs.Passing.{both_passed, between_passed}
use Rattle.loads.specs.declared.Searched.{Searched}
use Rattle.loads.specs.Hydrogen.{Levels, level_of}
use Rattle.loads.specs.Search.{compared_of, searched_of, searched_numbers, FewCompared, level_rule, level_answer, level_values}
use Rattle.loads.proofs.SearchLaws.{few_compared}

pub level_passed : (q k ceiling : ℕ) → level_rule q k ceiling ≡ Ok tt → Levels q k ceiling
unfolding level_rule
level_passed q k ceiling e =
    let first = both_passed (between percolation_range q) (and_then (between gibbsite_range k) (between ceiling_range ceiling)) e in
    let second = both_passed (between gibbsite_range k) (between ceiling_range ceiling) first.1 in
    record {
      percolation = (between_passed percolation_range q first.0).1;
      gibbsite = (between_passed gibbsite_range k second.0).1;
      least = (between_passed ceiling_range ceiling second.1).0;
      level = (between_passed ceiling_range ceiling second.1).1;
    }

module _ (q k limit ceiling : ℕ) where
  few : (f : Searched) → level_answer q k limit ceiling ≡ Ok f → FewCompared q k limit ceiling f.compared
  unfolding level_answer searched_of
  few f e =
      let g = given_by_lem (level_rule q k ceiling) (searched_of q k limit ceiling) f e in
      rw g.1 (few_compared q k limit ceiling (level_passed q k ceiling g.0))

  -- all that the search promises, from its equation, for numbers of any size
  pub level_promise :
      (r : Result Searched Rule) → r ≡ level_answer q k limit ceiling
      → (r ≡ level_answer q k limit ceiling)
      × ((level_values r ≡ values_if (level_rule q k ceiling) (level_of q k limit ceiling ∷ length (compared_of q k limit ceiling) ∷ []))
      × ((f : Searched) → r ≡ Ok f → FewCompared q k limit ceiling f.compared))
  unfolding level_answer level_values searched_numbers searched_of
  level_promise r is = (
    is,
    (
      ap level_values is ∙ values_by level_values searched_numbers (λ f. refl) (λ r. refl) (level_rule q k ceiling) (searched_of q k limit ceiling),
      λ f e. few f (sym is ∙ e),
    ),
  )
