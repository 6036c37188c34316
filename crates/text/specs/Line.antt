-- A row's line: name, four loads, region, two exceedances, mark, with single spaces.
use Rattle.std.specs.Prelude.{ℕ, List, ◌∷◌, ◌++◌, codes, take, replicate, flat_map}
use Rattle.loads.specs.CriticalLoads.{load_numbers}
use Rattle.judgement.specs.declared.Verdict.TheVariants.{Within}
use Rattle.judgement.specs.Verdicts.{verdict_numbers, verdict_word}
use Rattle.text.specs.declared.Row.{Row}
use Rattle.text.specs.Decimal.{decimal}

-- what `get_or` gives where there is no row
unfoldable pub blank_row : Row
blank_row =
    record {
      name = record { bytes = replicate 8 0; len = 0 };
      loads = record { max_s = 0; min_n = 0; max_n = 0; nut_n = 0 };
      verdict = Within;
    }

-- the seven numbers of a line
unfoldable pub numbers_of : Row → List ℕ
numbers_of r = load_numbers r.loads ++ verdict_numbers r.verdict

unfoldable pub name_text : Row → List ℕ
name_text r = take r.name.len r.name.bytes

-- a word after the first of its line
unfoldable pub spaced : List ℕ → List ℕ
spaced w = 32 ∷ w

unfoldable pub column : ℕ → List ℕ
column n = spaced (decimal n)

-- a row's line without its end
unfoldable pub body : Row → List ℕ
body r = name_text r ++ flat_map column (numbers_of r) ++ spaced (verdict_word r.verdict)

unfoldable pub line : Row → List ℕ
line r = body r ++ codes "\n"
