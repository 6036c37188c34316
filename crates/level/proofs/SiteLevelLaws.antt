-- The search at a site: a site that passes the check passes that of the search; what an answer says of its site; all that the call promises.
use Prim.Native.Nat.{ℕ}
use mathlib.Core.List.{List}
use mathlib.Core.Path.{◌≡◌, refl, sym, ◌∙◌, ap}
use native.Mathlib.Omega.{arith}
use lib.ListN.{length}
use Rattle.std.specs.Prelude.{Result, Ok, Err}
use Rattle.loads.specs.Check.{site_rule}
use Rattle.site.specs.Refusal.{and_then, values_if}
use Rattle.site.specs.Values.{value_rule}
use Rattle.site.specs.declared.Site.{Site}
use Rattle.site.specs.declared.Rule.{Rule}
use Rattle.site.proofs.FieldLaws.{site_passed}
use Rattle.loads.proofs.CheckLaws.{passed_fields}
use Rattle.site.proofs.ByCheckLaws.{given_by_lem, refused_by, values_by}
use Rattle.loads.specs.declared.Searched.{Searched}
use Rattle.loads.specs.SiteTerms.{terms_of}
use Rattle.loads.specs.Limits.{limit_answer}
use Rattle.loads.specs.Hydrogen.{greatest_level}
use Rattle.loads.specs.Search.{searched_of, searched_at, searched_numbers, levels_compared, level_numbers, FewAt, level_rule, level_answer, level_values}
use Rattle.loads.proofs.SearchLaws.{few_compared}
use Rattle.loads.proofs.LevelAnswers.{level_passed}
use Rattle.loads.proofs.LimitAnswers.{limit_given, limit_refused}
use Rattle.level.specs.SiteLevel.{site_level}

module _ (list : List ℕ) (s : Site) where
  -- rule 8 for percolation, gibbsite constant and ceiling is a part of the site's check
  search_passed : site_rule list s ≡ Ok tt → level_rule s.percolation s.gibbsite s.ceiling ≡ Ok tt
  unfolding level_rule and_then value_rule
  search_passed e =
      let f = passed_fields list s e in
      rw ((site_passed list s f 6 (omega arith) (omega arith)).1, (site_passed list s f 12 (omega arith) (omega arith)).1) (site_passed list s f 13 (omega arith) (omega arith)).1

  pub search_at : site_rule list s ≡ Ok tt → level_answer s.percolation s.gibbsite (terms_of list s).A s.ceiling ≡ site_level list s
  unfolding level_answer site_level and_then searched_at terms_of
  search_at e = rw (e, search_passed e)

  -- the answer by that of the aluminium limit
  pub by_limit : (a : ℕ) → limit_answer list s ≡ Ok a → level_answer s.percolation s.gibbsite a s.ceiling ≡ site_level list s
  by_limit a e = let g = limit_given list s a e in rw g.1 (search_at g.0)

  pub by_refusal : (r : Rule) → limit_answer list s ≡ Err r → site_level list s ≡ Err r
  unfolding site_level and_then
  by_refusal r e = rw (limit_refused list s r e)

  pub site_level_values : level_values (site_level list s) ≡ values_if (site_rule list s) (level_numbers (terms_of list s))
  unfolding site_level level_values searched_numbers searched_at searched_of greatest_level levels_compared level_numbers
  site_level_values = values_by level_values searched_numbers (λ f. refl) (λ r. refl) (site_rule list s) (searched_at (terms_of list s))

  pub level_given : (f : Searched) → site_level list s ≡ Ok f → (site_rule list s ≡ Ok tt) × (f ≡ searched_at (terms_of list s))
  unfolding site_level
  level_given = given_by_lem (site_rule list s) (searched_at (terms_of list s))

  pub level_refused : (r : Rule) → site_level list s ≡ Err r → site_rule list s ≡ Err r
  unfolding site_level
  level_refused = refused_by (site_rule list s) (searched_at (terms_of list s))

  -- how many levels are compared at a site that passes
  pub few_at : site_rule list s ≡ Ok tt → FewAt (terms_of list s) (length (levels_compared (terms_of list s)))
  unfolding levels_compared terms_of
  few_at e = few_compared s.percolation s.gibbsite (terms_of list s).A s.ceiling (level_passed s.percolation s.gibbsite s.ceiling (search_passed e))

  pub few_found : (f : Searched) → site_level list s ≡ Ok f → FewAt (terms_of list s) f.compared
  unfolding searched_at searched_of levels_compared
  few_found f e = let g = level_given f e in rw g.1 (few_at g.0)

  -- all that the call promises, from its equation
  pub level_promise :
      (r : Result Searched Rule) → r ≡ site_level list s
      → (r ≡ site_level list s)
      × ((level_values r ≡ values_if (site_rule list s) (level_numbers (terms_of list s)))
      × ((f : Searched) → r ≡ Ok f → FewAt (terms_of list s) f.compared))
  level_promise r is = (is, (ap level_values is ∙ site_level_values, λ f e. few_found f (sym is ∙ e)))
