-- The lengths, up to 25, that rule 7 permits for the fields 00 to 12, by kind: document 01's column "Bytes", a stand of no entries (document 02, E8), and no field 00 or 12.
-- Field 10 is due from kind 53 on and field 11 in kind 55, so of another kind nobody asks for their lengths.
use Rattle.std.specs.Prelude.{ℕ, ◌≡◌, refl, List, [], ◌∷◌, map}
use Rattle.std.specs.List.{filter}
use Rattle.site.specs.declared.RecordKind.{RecordKind}
use Rattle.site.specs.declared.RecordKind.TheVariants.{Tag52, Tag53, Tag54, Tag55}
use Rattle.site.specs.Bytes.{tabulate}
use Rattle.site.specs.Values.{length_permitted}

abbrev permitted : RecordKind → List (List ℕ)
permitted k = map (λ (t : ℕ). filter (length_permitted k t) (tabulate 26 (λ n. n))) (tabulate 19 (λ t. t))

abbrev with_stand : List ℕ → List (List ℕ)
with_stand stand =
    []
    ∷ (1 ∷ 2 ∷ 3 ∷ 4 ∷ 5 ∷ 6 ∷ 7 ∷ 8 ∷ [])  -- 01 name
    ∷ (1 ∷ [])
    ∷ (2 ∷ [])
    ∷ (1 ∷ [])
    ∷ (1 ∷ [])
    ∷ (2 ∷ [])
    ∷ stand  -- 07
    ∷ (2 ∷ [])
    ∷ (1 ∷ [])
    ∷ (2 ∷ [])
    ∷ (2 ∷ [])
    ∷ (2 ∷ [])
    ∷ (2 ∷ [])
    ∷ (2 ∷ [])
    ∷ (4 ∷ [])  -- 0F deposition
    ∷ (1 ∷ [])  -- 10 temperature
    ∷ (2 ∷ [])  -- 11 soil carbon dioxide
    ∷ []
    ∷ []

agrees_52 : permitted Tag52 ≡ with_stand (0 ∷ 4 ∷ 8 ∷ 12 ∷ 16 ∷ [])
unfolding tabulate length_permitted
agrees_52 = refl

agrees_53 : permitted Tag53 ≡ with_stand (0 ∷ 4 ∷ 8 ∷ 12 ∷ 16 ∷ [])
unfolding tabulate length_permitted
agrees_53 = refl

agrees_54 : permitted Tag54 ≡ with_stand (0 ∷ 5 ∷ 10 ∷ 15 ∷ 20 ∷ [])
unfolding tabulate length_permitted
agrees_54 = refl

agrees_55 : permitted Tag55 ≡ with_stand (0 ∷ 5 ∷ 10 ∷ 15 ∷ 20 ∷ [])
unfolding tabulate length_permitted
agrees_55 = refl
