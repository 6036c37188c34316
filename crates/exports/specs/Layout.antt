-- The calls on a site value and a list: its bytes, in the order of the site's values, numbers of two bytes with the high byte first; its check; and the numbers
-- of its loads and of its judgement. The number of the bytes says the kind: 50 are a value of kind 52; 51 one of kind 53, whose last byte is the temperature;
-- 55 one of kind 54, which has the high bytes of the four species numbers behind it; 57 one of kind 55, which has the soil carbon dioxide behind these.
use Rattle.std.specs.Prelude.{ℕ, ◌+◌, ◌*◌, ◌||◌, List, [], ◌∷◌, ◌++◌, eqb, get_or, length, Result, Ok, Err}
use Rattle.site.specs.Choice.{pick}
use Rattle.site.specs.Refusal.{and_then, Checked, unless}
use Rattle.loads.specs.Check.{site_rule}
use Rattle.numbers.specs.TwoBytes.{word_of, word_at}
use Rattle.site.specs.Bytes.{tabulate, name_in, narrow_entry}
use Rattle.site.specs.declared.RecordKind.{RecordKind}
use Rattle.site.specs.declared.RecordKind.TheVariants.{Tag52, Tag53, Tag54, Tag55}
use Rattle.site.specs.Kinds.{reference_temperature}
use Rattle.site.specs.declared.Site.{Site}
use Rattle.site.specs.declared.Entry.{Entry}
use Rattle.site.specs.declared.Stand.{Stand}
use Rattle.site.specs.declared.Refusal.{Refusal}
use Rattle.site.specs.declared.Rule.TheVariants.{BadLength}
use Rattle.exports.specs.Lent.{lent}
use Rattle.loads.specs.SiteTerms.{terms_of}
use Rattle.loads.specs.CriticalLoads.{loads_of, load_numbers}
use Rattle.judgement.specs.declared.Judged.{Judged}
use Rattle.judgement.specs.declared.Verdict.{Verdict}
use Rattle.judgement.specs.declared.Verdict.TheVariants.{Within, Over}
use Rattle.judgement.specs.Verdicts.{verdict, verdict_numbers}

-- entry i of the stand: the low byte of its species number stands with share and yield, the high byte after the temperature; where there is none, it is 0
unfoldable pub entry_in : List ℕ → ℕ → Entry
entry_in b i = record (narrow_entry b (16 + 4 * i)) { species = word_of (get_or b (51 + i) 0) (get_or b (16 + 4 * i) 0) }

abbrev pub stand_in : List ℕ → Stand
stand_in b = record { entries = tabulate 4 (λ i. entry_in b i); count = get_or b 32 0 }

-- the bytes as a value of kind k; where there is no temperature, that of 8 °C, and where there is no carbon dioxide, none
unfoldable pub site_as : RecordKind → List ℕ → Site
site_as k b = record {
  kind = k;
  name = record { bytes = name_in b; len = get_or b 8 0 };
  parent = get_or b 9 0;
  clay = get_or b 10 0;
  sand = get_or b 11 0;
  depth = get_or b 12 0;
  drainage = get_or b 13 0;
  percolation = word_at b 14;
  stand = stand_in b;
  immobilisation = word_at b 33;
  available = get_or b 35 0;
  base_deposition = word_at b 36;
  ratio = word_at b 38;
  gibbsite = word_at b 40;
  ceiling = word_at b 42;
  leachate = word_at b 44;
  sulphur = word_at b 46;
  nitrogen = word_at b 48;
  temperature = get_or b 50 reference_temperature;
  dioxide = word_at b 55;
}

-- the length says the kind
unfoldable pub kind_in : List ℕ → RecordKind
kind_in b = pick (eqb (length b) 57) Tag55 (pick (eqb (length b) 55) Tag54 (pick (eqb (length b) 51) Tag53 Tag52))

abbrev pub site_in : List ℕ → Site
site_in b = site_as (kind_in b) b

-- rule 7 for the length of the bytes
unfoldable pub value_length : List ℕ → Checked
value_length b = pick (eqb (length b) 50 || eqb (length b) 51 || eqb (length b) 55 || eqb (length b) 57) (Ok tt) (Err BadLength)

-- then the rules of the site
unfoldable pub value_check : (list b : List ℕ) → Checked
value_check list b = and_then (value_length b) (site_rule list (site_in b))

-- x, unless the list or the value is refused; the value's refusals are at 0
unfoldable pub given : {A : Type 0} → (list b : List ℕ) → A → Result A Refusal
given list b x = lent list (unless (value_check list b) 0 (Ok x))

unfoldable pub site_load_numbers : List ℕ → Site → List ℕ
site_load_numbers list s = load_numbers (loads_of (terms_of list s))

-- 0 within, 1 over
unfoldable pub mark_number : Verdict → ℕ
mark_number Within = 0
mark_number (Over r acid nutrient) = 1

unfoldable pub verdict_marked : Verdict → List ℕ
verdict_marked v = verdict_numbers v ++ (mark_number v ∷ [])

unfoldable pub judged_numbers : Judged → List ℕ
judged_numbers j = load_numbers j.loads ++ verdict_marked j.verdict

unfoldable pub judgement_numbers : List ℕ → Site → List ℕ
judgement_numbers list s = site_load_numbers list s ++ verdict_marked (verdict (terms_of list s) s.sulphur s.nitrogen)
