-- Which contents do not depend on the list: those of species 0 to 8, and so the terms of kinds 52 and 53.
use Prim.Native.Nat.{ℕ, ◌≤◌}
use mathlib.Core.Path.{◌≡◌, refl}
use mathlib.Core.Bool.{true, false}
use mathlib.Core.List.{List, [], ◌∷◌}
use borrow.Author.Tests.{le-leb}
use lib.ListN.{take}
use Rattle.std.specs.Prelude.{Ok}
use Rattle.std.specs.List.{list_all, sum_by}
use native.Mathlib.Omega.{arith}
use Rattle.std.proofs.lemmas.List.Sums.{sum_by-cons}
use Rattle.site.specs.Check.{due_rule}
use Rattle.site.specs.Kinds.{two_byte_species}
use Rattle.site.specs.Ranges.{most_species}
use Rattle.site.specs.Values.{entry_ranged}
use Rattle.site.specs.declared.Entry.{Entry}
use Rattle.site.specs.declared.RecordKind.{RecordKind}
use Rattle.site.specs.declared.Site.{Site}
use Rattle.site.proofs.Tests.{and_l, and_r}
use Rattle.site.proofs.NarrowLaws.{narrow_species}
use Rattle.site.proofs.BoundsLaw.{site_ranged}
use Rattle.loads.specs.Uptake.{species_row, content, nitrogen_in, base_in, weight_of, stand_sum, nitrogen_uptake, base_demand, base_uptake}
use Rattle.loads.specs.Supply.{base_supply, aluminium_limit}
use Rattle.loads.specs.SiteTerms.{terms_of}

module _ (list more : List ℕ) where
  -- 0 to 8 mean what they meant
  pub table_row : (species : ℕ) → species ≤ most_species → species_row list species ≡ species_row more species
  unfolding species_row
  table_row species h = rw (le-leb species most_species h)

  module _ (k : RecordKind) (narrow : two_byte_species k ≡ false) where
    weighed_same : (e : Entry) → entry_ranged k e ≡ true
        → (weight_of (nitrogen_in list) e ≡ weight_of (nitrogen_in more) e) × (weight_of (base_in list) e ≡ weight_of (base_in more) e)
    unfolding weight_of nitrogen_in base_in content
    weighed_same e p = let row = table_row e.species (narrow_species k narrow e p) in (rw row, rw row)

    sums_same : (es : List Entry) → list_all (entry_ranged k) es ≡ true
        → (sum_by (weight_of (nitrogen_in list)) es ≡ sum_by (weight_of (nitrogen_in more)) es)
        × (sum_by (weight_of (base_in list)) es ≡ sum_by (weight_of (base_in more)) es)
    sums_same [] p = (refl, refl)
    sums_same (e ∷ es) p =
        let first = weighed_same e (and_l (entry_ranged k e) (list_all (entry_ranged k) es) p) in
        let rest = sums_same es (and_r (entry_ranged k e) (list_all (entry_ranged k) es) p) in (
          omega (arith, sum_by-cons (weight_of (nitrogen_in list)), sum_by-cons (weight_of (nitrogen_in more)), first.0, rest.0),
          omega (arith, sum_by-cons (weight_of (base_in list)), sum_by-cons (weight_of (base_in more)), first.1, rest.1),
        )

  -- kinds 52 and 53 keep their terms
  pub narrow_terms : (s : Site) → two_byte_species s.kind ≡ false → due_rule list s ≡ Ok tt → terms_of list s ≡ terms_of more s
  unfolding terms_of nitrogen_uptake base_supply aluminium_limit base_uptake base_demand stand_sum
  narrow_terms s narrow e =
      let same = sums_same s.kind narrow (take s.stand.count s.stand.entries) (site_ranged list s e) in
      rw (same.0, same.1)
