-- What is answered with a list of species that is lent: its check, rule 15, comes ahead of all else.
use Rattle.std.specs.Prelude.{ℕ, ◌≡◌, List, Result, Ok}
use Rattle.site.specs.Refusal.{unless}
use Rattle.site.specs.SpeciesList.{list_rule, list_fault}
use Rattle.site.specs.declared.Refusal.{Refusal}
use Rattle.site.specs.declared.Site.{Site}
use Rattle.record.specs.File.{Contents, contents}
use Rattle.listing.specs.Reports.{printed}
use Rattle.listing.specs.PrintedDemand3.{TextSays}

-- x, unless the list breaks rule 15 at one of its entries
unfoldable pub lent : {A : Type 0} → (list : List ℕ) → Result A Refusal → Result A Refusal
lent list x = unless (list_rule list) (list_fault list) x

-- what a file holds with the list
abbrev pub lent_contents : (list f : List ℕ) → Contents Site
lent_contents list f = lent list (contents list f)

-- what is printed: the listing, or the line of a refusal, that of the list too
abbrev pub lent_report : (list f : List ℕ) → List ℕ
lent_report list f = printed list (lent_contents list f)

-- where the list passes its check, and with it the file f, the text t says `Say` of the file's sites
abbrev pub LentSays : (List ℕ → List Site → List ℕ → Type 0) → (list f t : List ℕ) → Type 0
LentSays Say list f t = list_rule list ≡ Ok tt → TextSays Say list f t
