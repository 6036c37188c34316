-- Where P is 0 no bicarbonate is leached: rule 21 is never broken, and CLmaxS is B + W − Bu with all the hydrogen and aluminium of the greatest allowed level.
-- So it is in every kind of record without field 11, and in kind 55 where that is 0.
use Rattle.std.specs.Prelude.{ℕ, ◌+◌, ◌*◌, ◌/◌, ◌≡◌, List, Result, Ok}
use Rattle.site.specs.declared.Rule.{Rule}
use Rattle.site.specs.declared.Site.{Site}
use Rattle.site.specs.Refusal.{and_then}
use Rattle.site.specs.Check.{due_rule}
use Rattle.loads.specs.declared.Loads.{Loads}
use Rattle.loads.specs.Terms.{Terms}
use Rattle.loads.specs.SiteTerms.{terms_of}
use Rattle.loads.specs.Hydrogen.{hydrogen, aluminium, bicarbonate, greatest_level}
use Rattle.loads.specs.MaxS.{load_rule, cl_max_s}
use Rattle.loads.specs.CriticalLoads.{cl_min_n, cl_nut_n}

-- CLmaxS
unfoldable pub unlost_max_s : Terms → ℕ
unlost_max_s t = t.supply + hydrogen t (greatest_level t) + aluminium t (greatest_level t)

unfoldable pub unlost_loads : Terms → Loads
unlost_loads t = record { max_s = unlost_max_s t; min_n = cl_min_n t; max_n = cl_min_n t + 1000 * unlost_max_s t / t.e; nut_n = cl_nut_n t }

-- the loads, or the first rule that a field breaks
unfoldable pub unlost_answer : List ℕ → Site → Result Loads Rule
unlost_answer list s = and_then (due_rule list s) (Ok (unlost_loads (terms_of list s)))

pub record NothingLost (t : Terms) : Type 0 where
  pub none : (h : ℕ) → bicarbonate t h ≡ 0
  pub passes : load_rule t ≡ Ok tt
  pub max_s : cl_max_s t ≡ unlost_max_s t
