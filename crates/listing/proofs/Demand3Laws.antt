-- Demand 3, from the judgement of a site to the last word of its line.
use Prim.Native.Nat.{ℕ, suc, ◌<◌}
use mathlib.Core.Path.{◌≡◌, refl, sym, ap, ◌∙◌}
use mathlib.Core.Bool.{true, false, false≢true}
use mathlib.Core.List.{List, [], ◌∷◌, map}
use native.Mathlib.Omega.{arith}
use lib.ListN.{length, get_or, length-map}
use Rattle.site.specs.declared.Site.{Site}
use Rattle.std.specs.Prelude.{Ok}
use Rattle.loads.specs.Check.{site_rule}
use Rattle.site.specs.Values.{name_byte, value_rule}
use Rattle.std.specs.List.{list_all}
use Rattle.site.proofs.Tests.{and_l, and_r}
use Rattle.site.proofs.Passing.{ranged_passed}
use Rattle.site.proofs.FieldLaws.{site_passed}
use Rattle.loads.proofs.CheckLaws.{passed_fields}
use Rattle.judgement.specs.Balance.{Says}
use Rattle.judgement.specs.Verdicts.{verdict_word}
use Rattle.judgement.proofs.JudgementAnswers.{judged_says}
use Rattle.field.specs.Field.{blank_site}
use Rattle.text.specs.Line.{blank_row, name_text}
use Rattle.text.specs.Listing.{listing}
use Rattle.text.specs.Words.{last_word, line_at, free}
use Rattle.text.specs.Marks.{Plain}
use Rattle.text.proofs.WordLaws.{free-cons}
use Rattle.text.proofs.MarkLaws.{mark_of, line_count, line-header, line_behind}
use Rattle.record.specs.File.{contents}
use Rattle.field.proofs.All.{all_at}
use Rattle.record.proofs.SiteFile.{sites_checked}
use Rattle.listing.specs.PrintedDemand3.{LinesSay}
use Rattle.listing.specs.Rows.{row_by, row_of}
use Rattle.site.proofs.MapLaws.{get_d_map}

pub says : (list : List ℕ) (s : Site) → site_rule list s ≡ Ok tt → Says list (verdict_word (row_of list s).verdict) s
unfolding row_of row_by
says list s p = judged_says list s p

-- a name has none of the bytes that are not a name's, so no 0A and no space
name_free : (b : ℕ) → name_byte b ≡ false → (xs : List ℕ) → list_all name_byte xs ≡ true → free b xs ≡ true
unfolding free
name_free b n [] e = refl
name_free b n (x ∷ xs) e =
    let first = and_l (name_byte x) (list_all name_byte xs) e in
    free-cons b x xs (λ q. false≢true (sym n ∙ ap name_byte (sym q) ∙ first)) (name_free b n xs (and_r (name_byte x) (list_all name_byte xs) e))

pub site_name_free : (b : ℕ) → name_byte b ≡ false → (list : List ℕ) (s : Site) → site_rule list s ≡ Ok tt → free b (name_text (row_of list s)) ≡ true
unfolding row_of row_by name_text value_rule
site_name_free b n list s p = name_free b n _ (ranged_passed _ (site_passed list s (passed_fields list s p) 1 (omega arith) (omega arith)).1)

no_end : name_byte 10 ≡ false
unfolding name_byte
no_end = refl

pub no_space : name_byte 32 ≡ false
unfolding name_byte
no_space = refl

-- demand 3 in the listing
module _ (list f : List ℕ) (ss : List Site) (e : contents list f ≡ Ok ss) where
  pub passed : (k : ℕ) → k < length ss → site_rule list (get_or ss k blank_site) ≡ Ok tt
  passed k h = all_at (sites_checked list f ss e).1 k blank_site h

  pub row_at : (k : ℕ) → k < length ss → get_or (map (row_of list) ss) k blank_row ≡ row_of list (get_or ss k blank_site)
  row_at k h = get_d_map (row_of list) ss k blank_site blank_row h

  pub plain : Plain (map (row_of list) ss)
  plain k l = let h : k < length ss = omega (arith, length-map ss (row_of list)) in rw (row_at k h) (site_name_free 10 no_end list _ (passed k h))

  line_says : (k : ℕ) → k < length ss → Says list (last_word (line_at (suc k) (listing (map (row_of list) ss)))) (get_or ss k blank_site)
  line_says k h = rw (mark_of (map (row_of list) ss) k plain (omega (arith, length-map ss (row_of list))), row_at k h) (says list (get_or ss k blank_site) (passed k h))

  pub listing_says : LinesSay list ss (listing (map (row_of list) ss))
  listing_says = record {
    lines = omega (arith, line_count (map (row_of list) ss) plain, length-map ss (row_of list));
    header = line-header (map (row_of list) ss) plain;
    nothing_behind = rw (← length-map ss (row_of list)) (line_behind (map (row_of list) ss) plain);
    says = line_says;
  }
