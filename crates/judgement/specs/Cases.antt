-- The cases that document 01 marks §: one table of questions and answers. `agrees` in `proofs/Cases.antt` proves that the definitions say the same.
use Rattle.std.specs.Prelude.{ℕ, List, [], ◌∷◌}
use Rattle.loads.specs.Texture.{texture_of}
use Rattle.loads.specs.SiteTerms.{terms_of}
use Rattle.site.specs.ExampleSite.{a1}
use Rattle.judgement.specs.Regions.{region_number}
use Rattle.judgement.specs.Verdicts.{region, acid_exceedance, nutrient_exceedance}

pub data Question : Type 0 where
  pair_of_a1 : (S N : ℕ) → Question  -- region and acid exceedance
  nitrogen_of_a1 : (N : ℕ) → Question  -- nutrient exceedance
  soil : (clay sand : ℕ) → Question  -- texture class

unfoldable pub computed : Question → List ℕ
computed (pair_of_a1 S N) = region_number (region (terms_of [] a1) S N) ∷ acid_exceedance (terms_of [] a1) S N ∷ []
computed (nitrogen_of_a1 N) = nutrient_exceedance (terms_of [] a1) N ∷ []
computed (soil clay sand) = texture_of clay sand ∷ []

pub record Case : Type 0 where
  pub question : Question
  pub given : List ℕ

unfoldable pub table : List Case
table =
    record { question = pair_of_a1 735 205; given = 0 ∷ 0 ∷ [] }
    ∷ record { question = pair_of_a1 736 205; given = 4 ∷ 1 ∷ [] }
    ∷ record { question = pair_of_a1 735 206; given = 2 ∷ 1 ∷ [] }
    ∷ record { question = pair_of_a1 1000 206; given = 3 ∷ 266 ∷ [] }
    ∷ record { question = pair_of_a1 10 1500; given = 1 ∷ 489 ∷ [] }
    ∷ record { question = pair_of_a1 500 700; given = 2 ∷ 221 ∷ [] }
    ∷ record { question = nitrogen_of_a1 249; given = 0 ∷ [] }
    ∷ record { question = nitrogen_of_a1 250; given = 1 ∷ [] }
    ∷ record { question = soil 10 65; given = 1 ∷ [] }  -- Sl3
    ∷ record { question = soil 4 63; given = 2 ∷ [] }  -- Su3
    ∷ record { question = soil 21 71; given = 2 ∷ [] }  -- St3
    ∷ record { question = soil 10 64; given = 2 ∷ [] }
    ∷ []
