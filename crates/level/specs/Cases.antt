-- Site A1 of document 01 with four hydrogen ceilings: the levels that are compared, in order, and the level found. `proofs/Cases.antt` proves that the
-- definitions give them, and that each site passes the check.
use Rattle.std.specs.Prelude.{ℕ, List, [], ◌∷◌}
use Rattle.site.specs.declared.Site.{Site}
use Rattle.site.specs.ExampleSite.{a1}
use Rattle.loads.specs.Hydrogen.{greatest_level}
use Rattle.loads.specs.SiteTerms.{terms_of}
use Rattle.loads.specs.Search.{levels_compared}

abbrev pub a1_with : (ceiling : ℕ) → Site
a1_with h = record a1 { ceiling = h }

pub record LevelCase : Type 0 where
  pub ceiling : ℕ
  pub compared : List ℕ
  pub level : ℕ

unfoldable pub cases : List LevelCase
cases =
    record { ceiling = 1000; compared = 1000 ∷ 500 ∷ 750 ∷ 875 ∷ 812 ∷ 843 ∷ 827 ∷ 819 ∷ 815 ∷ 817 ∷ 818 ∷ []; level = 818 }  -- A1 itself
    ∷ record { ceiling = 818; compared = 818 ∷ []; level = 818 }  -- the ceiling is allowed
    ∷ record { ceiling = 819; compared = 819 ∷ 409 ∷ 614 ∷ 716 ∷ 767 ∷ 793 ∷ 806 ∷ 812 ∷ 815 ∷ 817 ∷ 818 ∷ []; level = 818 }  -- it just is not
    ∷ record { ceiling = 5000; compared = 5000 ∷ 2500 ∷ 1250 ∷ 625 ∷ 937 ∷ 781 ∷ 859 ∷ 820 ∷ 800 ∷ 810 ∷ 815 ∷ 817 ∷ 818 ∷ 819 ∷ []; level = 818 }  -- 14
    ∷ []

-- what the definitions give for a ceiling
abbrev pub computed : (ceiling : ℕ) → LevelCase
computed h = let t = terms_of [] (a1_with h) in record { ceiling = h; compared = levels_compared t; level = greatest_level t }
