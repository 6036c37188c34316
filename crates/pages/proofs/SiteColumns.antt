-- The columns of a site's line show its values: none is longer than its column, and none has a space.
use Prim.Native.Nat.{ℕ, ◌≤◌, ◌^◌, ◌<◌}
use mathlib.Core.Path.{◌≡◌, ap}
use native.Mathlib.Omega.{arith}
use lib.ListN.{length, take, length-take}
use mathlib.Core.List.{List}
use Rattle.numbers.specs.TwoBytes.{AllBytes}
use Rattle.site.specs.declared.Site.{Site}
use Rattle.std.specs.Prelude.{Ok}
use Rattle.loads.specs.Check.{site_rule}
use Rattle.site.specs.Values.{item_count}
use Rattle.loads.proofs.CheckLaws.{bounds, passed_fields}
use Rattle.site.proofs.FieldLaws.{site_passed}
use Rattle.site.proofs.LengthLaws.{count_parts}
use Rattle.loads.specs.SiteTerms.{terms_of}
use Rattle.loads.specs.MaxS.{cl_max_s}
use Rattle.loads.specs.CriticalLoads.{cl_min_n}
use Rattle.loads.proofs.LoadBounds.{load_bounds}
use Rattle.judgement.specs.declared.Region.{Region}
use Rattle.judgement.specs.declared.Region.TheVariants.{AcidKept, NoSulphur, Slope, Corner, SulphurOnly}
use Rattle.judgement.specs.declared.Verdict.{Verdict}
use Rattle.judgement.specs.declared.Verdict.TheVariants.{Within, Over}
use Rattle.judgement.specs.Regions.{region_number}
use Rattle.judgement.specs.Verdicts.{region, acid_exceedance, nutrient_exceedance, verdict_word}
use Rattle.judgement.specs.Answers.{judged_of}
use Rattle.judgement.proofs.AtSites.{site_bounds}
use Rattle.judgement.proofs.Exceeding.{acid_most}
use Rattle.record.proofs.PairLaws.{PairRange}
use Rattle.text.specs.Decimal.{decimal}
use Rattle.text.specs.Line.{name_text}
use Rattle.text.proofs.DecimalLaws.{length_below}
use Rattle.text.proofs.WordLaws.{free-decimal}
use Rattle.text.proofs.MarkLaws.{free_mark}
use Rattle.listing.specs.Rows.{row_by, row_of}
use Rattle.listing.proofs.RowLaws.{row_numbers}
use Rattle.listing.proofs.Demand3Laws.{site_name_free, no_space}
use Rattle.columns.specs.PageLine.{page_line, line_texts, row_texts, row_line}
use Rattle.columns.specs.LineRead.{columns_of}
use Rattle.columns.proofs.ColumnLaws.{Whole, columns_back}
use Rattle.pages.specs.PagesDemand3.{shown}

-- the texts of a site's row, in document 01's terms
texts_shown : (list : List ℕ) (s : Site) → row_texts (row_of list s) ≡ shown list s
unfolding row_texts line_texts row_of row_by judged_of name_text shown
texts_shown list s = rw (row_numbers list s)

pub row_shown : (list : List ℕ) (s : Site) → row_line (row_of list s) ≡ page_line (shown list s)
unfolding row_line
row_shown list s = ap page_line (texts_shown list s)

-- a number below 10 to the power of its column's width is whole
number_whole : (w n : ℕ) → 1 ≤ w → n < 10 ^ w → Whole w (decimal n)
number_whole w n h l = record { fits = length_below w n h l; no_space = free-decimal 32 n (omega arith) }

mark_short : (v : Verdict) → length (verdict_word v) ≤ 7
unfolding verdict_word
mark_short Within = omega arith
mark_short (Over g a n) = omega arith

mark_whole : (v : Verdict) → Whole 7 (verdict_word v)
mark_whole v = record { fits = mark_short v; no_space = (free_mark v).1 }

region_small : (g : Region) → region_number g < 10
region_small AcidKept = omega arith
region_small NoSulphur = omega arith
region_small Slope = omega arith
region_small Corner = omega arith
region_small SulphurOnly = omega arith

module _ (list : List ℕ) (a : AllBytes list) (s : Site) (passed : site_rule list s ≡ Ok tt) (pair : PairRange s) where
  name_whole : Whole 8 (take s.name.len s.name.bytes)
  unfolding item_count name_text row_of row_by
  name_whole =
      let few = count_parts 1 s (site_passed list s (passed_fields list s passed) 1 (omega arith) (omega arith)).0 in
      record { fits = simp length-take (omega (arith, few.1)); no_space = site_name_free 32 no_space list s passed }

  acid_small : acid_exceedance (terms_of list s) s.sulphur s.nitrogen < 10 ^ 7
  unfolding acid_exceedance
  acid_small =
      let t = terms_of list s in
      omega (arith, acid_most s.sulphur s.nitrogen (cl_max_s t) (cl_min_n t) t.e (site_bounds list s passed).e_least, pair.sulphur, pair.nitrogen)

  nutrient_small : nutrient_exceedance (terms_of list s) s.nitrogen < 10 ^ 7
  unfolding nutrient_exceedance
  nutrient_small = omega (arith, pair.nitrogen)

  -- each value stands whole in its column
  pub line_shows : columns_of (page_line (shown list s)) ≡ shown list s
  unfolding shown
  line_shows =
      let l = load_bounds list a s (bounds list s passed) in
      columns_back _ _ _ _ _ _ _ _ _ name_whole
      (number_whole 8 _ (omega arith) (omega (arith, l.cl_max_s_most)))
      (number_whole 8 _ (omega arith) (omega (arith, l.cl_min_n_most)))
      (number_whole 8 _ (omega arith) (omega (arith, l.cl_max_n_most)))
      (number_whole 8 _ (omega arith) (omega (arith, l.cl_nut_n_most)))
      (number_whole 2 _ (omega arith) (omega (arith, region_small (region (terms_of list s) s.sulphur s.nitrogen))))
      (number_whole 7 _ (omega arith) acid_small)
      (number_whole 7 _ (omega arith) nutrient_small)
      (mark_whole _)
