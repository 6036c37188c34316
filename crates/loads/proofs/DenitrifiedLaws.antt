-- The denitrified part d by parent material, and e at a site with its bounds.
use Prim.Native.Nat.{ℕ, ◌-◌, ◌≤◌}
use mathlib.Core.Path.{◌≡◌, refl}
use mathlib.Core.List.{List, [], ◌∷◌}
use native.Mathlib.Omega.{arith}
use borrow.Author.Tests.{ne_eqb}
use lib.Dec.{eqb}
use lib.ListN.{get_or}
use Rattle.site.specs.declared.Site.{Site}
use Rattle.loads.specs.MostTerms.{most_d, least_e}
use Rattle.loads.specs.Nitrogen.{denitrified, undenitrified}
use Rattle.loads.specs.SiteTerms.{terms_of}
use Rattle.loads.proofs.Numbers.{pick-le}
use Rattle.loads.proofs.Tables.{drainage_part_le}

-- organic parent material: 800 per mille at every drainage
pub organic_part : (parent drainage : ℕ) → parent ≡ 0 → denitrified parent drainage ≡ 800
unfolding denitrified
organic_part parent drainage h = rw h

-- every other: the parts of document 01, written out, so that another list is refused
pub mineral_part :
    (parent drainage : ℕ) → (parent ≡ 0 → ⊥)
    → denitrified parent drainage ≡ get_or (0 ∷ 100 ∷ 200 ∷ 400 ∷ 700 ∷ 800 ∷ []) drainage 0
unfolding denitrified
mineral_part parent drainage h = rw (ne_eqb parent 0 h)

-- d is 800 at most, so 1000 − d is not cut off
pub denitrified-le : (parent drainage : ℕ) → denitrified parent drainage ≤ most_d
unfolding denitrified
denitrified-le parent drainage = pick-le (eqb parent 0) (omega arith) (drainage_part_le drainage)

module _ (s : Site) where
  pub undenitrified_by : undenitrified s ≡ 1000 - denitrified s.parent s.drainage
  unfolding undenitrified
  undenitrified_by = refl

  pub undenitrified_least : least_e ≤ undenitrified s
  undenitrified_least = omega (arith, undenitrified_by, denitrified-le s.parent s.drainage)

  pub undenitrified-pos : 1 ≤ undenitrified s
  undenitrified-pos = omega (arith, undenitrified_least)

  pub undenitrified_most : undenitrified s ≤ 1000
  undenitrified_most = omega (arith, undenitrified_by)

-- e is that of the site, whatever the list
pub e_is : (list : List ℕ) (s : Site) → (terms_of list s).e ≡ undenitrified s
unfolding terms_of
e_is list s = refl

pub undenitrified_is : (list : List ℕ) (s : Site) → (terms_of list s).e ≡ 1000 - denitrified s.parent s.drainage
undenitrified_is list s = rw (e_is list s) (undenitrified_by s)
