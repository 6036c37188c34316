-- The call on a site value, a list and the rain sampler's months: the bytes of both, and the ten numbers.
use Rattle.std.specs.Prelude.{ℕ, ◌≡◌, List, ◌∷◌, eqb, Result, Ok, Err, length, get_or, take, drop}
use Rattle.site.specs.Choice.{pick}
use Rattle.site.specs.Refusal.{Checked, unless}
use Rattle.site.specs.declared.Rule.TheVariants.{BadLength}
use Rattle.site.specs.declared.Refusal.{Refusal}
use Rattle.output.specs.Output.{Written}
use Rattle.readings.specs.MonthBytes.{months_in}
use Rattle.sampler.specs.YearPair.{year_of}
use Rattle.sampler.specs.SampleAnswers.{with_pair, year_answer}
use Rattle.sampler.specs.declared.Sampled.{Sampled}
use Rattle.exports.specs.Lent.{lent}
use Rattle.exports.specs.Numbers.{numbers_written, numbers_held}
use Rattle.exports.specs.Layout.{site_in, value_check, judged_numbers, judgement_numbers}

-- rule 7 for the length of the months
unfoldable pub months_length : List ℕ → Checked
months_length m = pick (eqb (length m) 204) (Ok tt) (Err BadLength)

-- the rule of the list, the rules of the site value, then the length of the months, then their rules and that of the year
unfoldable pub sample_in : (site list months : List ℕ) → Result Sampled Refusal
sample_in b list m = lent list (unless (value_check list b) 0 (unless (months_length m) 0 (year_answer list (site_in b) (year_of (months_in m)))))

-- S and N, then the eight numbers of their judgement
unfoldable pub sampled_numbers : Sampled → List ℕ
sampled_numbers p = p.pair.sulphur ∷ p.pair.nitrogen ∷ judged_numbers p.judged

unfoldable pub sampled : Result Sampled Refusal → Result (List ℕ) Refusal
sampled (Ok p) = Ok (sampled_numbers p)
sampled (Err r) = Err r

-- the answer where these numbers are to stand in a slice of `room`, and what it then holds
abbrev pub sample_written : Result Sampled Refusal → (room : ℕ) → Written
sample_written a room = numbers_written (sampled a) room

abbrev pub sample_held : Result Sampled Refusal → (old : List ℕ) → List ℕ
sample_held a old = numbers_held (sampled a) old

-- the ten numbers: the pair of the months, and what `forest_judge` gives for the site with this pair put into its field 0F
pub record NumbersByKey (site list months numbers : List ℕ) : Type 0 where
  pub pair : year_of (months_in months) ≡ Ok (record { sulphur = get_or numbers 0 0; nitrogen = get_or numbers 1 0 })
  pub judgement : take 8 (drop 2 numbers) ≡ judgement_numbers list (with_pair (site_in site) (record { sulphur = get_or numbers 0 0; nitrogen = get_or numbers 1 0 }))
