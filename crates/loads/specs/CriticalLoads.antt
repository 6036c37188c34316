-- The four loads from the terms, and what the call answers. One difference of the terms is cut off: B + w − Q/10 in Bu, which is 0 where it is
-- negative, as document 01 wants. No other is at a site that passes the check: `PartBounds` in `proofs/SiteTermLaws.antt`, for the place of a
-- texture class `texture_between` in `proofs/TextureLaws.antt`, for class k the rules of its table in `proofs/Tables.antt`, for d `denitrified-le`
-- in `proofs/DenitrifiedLaws.antt`.
use Rattle.std.specs.Prelude.{ℕ, ◌+◌, ◌*◌, ◌/◌, List, [], ◌∷◌, Result, Ok, Err}
use Rattle.site.specs.declared.Site.{Site}
use Rattle.site.specs.declared.Rule.{Rule}
use Rattle.site.specs.Refusal.{refusal_values, and_then}
use Rattle.loads.specs.MaxS.{cl_max_s}
use Rattle.loads.specs.Check.{site_rule}
use Rattle.loads.specs.declared.Loads.{Loads}
use Rattle.loads.specs.Terms.{Terms}
use Rattle.loads.specs.SiteTerms.{terms_of}

-- CLminN
unfoldable pub cl_min_n : Terms → ℕ
cl_min_n t = t.Nu + t.Ni

-- CLmaxN
unfoldable pub cl_max_n : Terms → ℕ
cl_max_n t = cl_min_n t + 1000 * cl_max_s t / t.e

-- CLnutN
unfoldable pub cl_nut_n : Terms → ℕ
cl_nut_n t = cl_min_n t + 1000 * t.L / t.e

unfoldable pub loads_of : Terms → Loads
loads_of t = record { max_s = cl_max_s t; min_n = cl_min_n t; max_n = cl_max_n t; nut_n = cl_nut_n t }

-- CLmaxS, CLminN, CLmaxN, CLnutN
unfoldable pub load_numbers : Loads → List ℕ
load_numbers l = l.max_s ∷ l.min_n ∷ l.max_n ∷ l.nut_n ∷ []

unfoldable pub loads_answer : List ℕ → Site → Result Loads Rule
loads_answer list s = and_then (site_rule list s) (Ok (loads_of (terms_of list s)))

-- the values of each case: the loads, or the refusal's number and offset
unfoldable pub loads_values : Result Loads Rule → List ℕ
loads_values (Ok l) = load_numbers l
loads_values (Err r) = refusal_values r
