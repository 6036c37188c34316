-- What the call answers that gives the aluminium limit of a site.
use Rattle.std.specs.Prelude.{ℕ, List, [], ◌∷◌, Result, Ok, Err}
use Rattle.site.specs.declared.Site.{Site}
use Rattle.site.specs.declared.Rule.{Rule}
use Rattle.site.specs.Refusal.{refusal_values, and_then}
use Rattle.loads.specs.Check.{site_rule}
use Rattle.loads.specs.SiteTerms.{terms_of}

unfoldable pub limit_answer : List ℕ → Site → Result ℕ Rule
limit_answer list s = and_then (site_rule list s) (Ok (terms_of list s).A)

-- the values of each case: A, or the refusal's number and offset
unfoldable pub limit_values : Result ℕ Rule → List ℕ
limit_values (Ok a) = a ∷ []
limit_values (Err r) = refusal_values r
