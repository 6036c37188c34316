-- Uptake of nitrogen and of base cations.
use Rattle.std.specs.Prelude.{ℕ, ◌+◌, ◌*◌, ◌-◌, ◌/◌, min, List, [], ◌∷◌, leb, get_or, take, sum_by}
use Rattle.numbers.specs.TwoBytes.{word_at}
use Rattle.site.specs.Choice.{pick}
use Rattle.site.specs.Ranges.{most_species}
use Rattle.site.specs.SpeciesList.{place_of}
use Rattle.site.specs.declared.Site.{Site}
use Rattle.site.specs.declared.Entry.{Entry}
use Rattle.loads.specs.Rounding.{up}
use Rattle.loads.specs.Weathering.{available_weathering}

-- the species table: Ca, Mg, K, N in hundredths of eq per tonne
abbrev pub species_table : List (List ℕ)
species_table =
    (5389 ∷ 1980 ∷ 1660 ∷ 7782 ∷ [])  -- 0 pine
    ∷ (7036 ∷ 1480 ∷ 1970 ∷ 8710 ∷ [])  -- 1 spruce
    ∷ (8982 ∷ 2140 ∷ 3580 ∷ 10357 ∷ [])  -- 2 beech, hornbeam
    ∷ (12330 ∷ 1480 ∷ 2690 ∷ 14993 ∷ [])  -- 3 oak
    ∷ (8483 ∷ 2470 ∷ 3330 ∷ 9995 ∷ [])  -- 4 alder
    ∷ (5988 ∷ 1650 ∷ 1920 ∷ 12137 ∷ [])  -- 5 birch
    ∷ (4790 ∷ 1810 ∷ 1560 ∷ 8214 ∷ [])  -- 6 mountain pine
    ∷ (14970 ∷ 1980 ∷ 2560 ∷ 9995 ∷ [])  -- 7 willow
    ∷ (8483 ∷ 2470 ∷ 3330 ∷ 9995 ∷ [])  -- 8 other deciduous
    ∷ []

-- the contents in an entry of a list
abbrev pub listed_row : List ℕ → ℕ → List ℕ
listed_row list i = word_at list (10 * i + 2) ∷ word_at list (10 * i + 4) ∷ word_at list (10 * i + 6) ∷ word_at list (10 * i + 8) ∷ []

-- the contents of a species: from the table, and past it from the list that is lent (document 02, E6). In a list that passes, a number that neither has, which rule 8 or 16 refuses, has contents of 0.
unfoldable pub species_row : (list : List ℕ) (species : ℕ) → List ℕ
species_row list species = pick (leb species most_species) (get_or species_table species []) (listed_row list (place_of list species))

-- an element's content in a species: 0 Ca, 1 Mg, 2 K, 3 N
unfoldable pub content : (list : List ℕ) (species element : ℕ) → ℕ
content list species element = get_or (species_row list species) element 0

unfoldable pub nitrogen_in : (list : List ℕ) (species : ℕ) → ℕ
nitrogen_in list species = content list species 3

-- Ca + Mg + K
unfoldable pub base_in : (list : List ℕ) (species : ℕ) → ℕ
base_in list species = content list species 0 + content list species 1 + content list species 2

-- share × yield × content of one entry: the same rule for every species, wherever its content stands
unfoldable pub weight_of : (ℕ → ℕ) → Entry → ℕ
weight_of content_in e = e.share * e.yield_kg * content_in e.species

-- its sum over the first n entries of a stand
unfoldable pub stand_sum : (ℕ → ℕ) → List Entry → ℕ → ℕ
stand_sum content_in stand n = sum_by (weight_of content_in) (take n stand)

-- what a sum is divided by, once: 100 percent × 1000 kg per tonne × 100 hundredths
abbrev pub uptake_divisor : ℕ
uptake_divisor = 10000000

-- Nu
unfoldable pub nitrogen_uptake : List ℕ → Site → ℕ
nitrogen_uptake list s = stand_sum (nitrogen_in list) s.stand.entries s.stand.count / uptake_divisor

unfoldable pub base_demand : List ℕ → Site → ℕ
base_demand list s = up (stand_sum (base_in list) s.stand.entries s.stand.count) uptake_divisor

-- Bu, where bases are B + w: the demand, at most B + w − Q/10, and 0 where this is negative: the subtraction of ℕ gives 0 there
unfoldable pub base_uptake_of : (demand bases q : ℕ) → ℕ
base_uptake_of demand bases q = min demand (bases - up q 10)

unfoldable pub base_uptake : List ℕ → Site → ℕ
base_uptake list s = base_uptake_of (base_demand list s) (s.base_deposition + available_weathering s) s.percolation
