-- What the search answers at a site.
use Rattle.std.specs.Prelude.{ℕ, List, Result, Ok}
use Rattle.site.specs.declared.Site.{Site}
use Rattle.site.specs.declared.Rule.{Rule}
use Rattle.loads.specs.Check.{site_rule}
use Rattle.site.specs.Refusal.{and_then}
use Rattle.loads.specs.declared.Searched.{Searched}
use Rattle.loads.specs.SiteTerms.{terms_of}
use Rattle.loads.specs.Search.{searched_at}

unfoldable pub site_level : List ℕ → Site → Result Searched Rule
site_level list s = and_then (site_rule list s) (Ok (searched_at (terms_of list s)))
