-- Less deposition is never worse.
use Rattle.std.specs.Prelude.{ℕ, ◌≤◌, ◌≡◌, List, Ok}
use Rattle.site.specs.declared.Site.{Site}
use Rattle.loads.specs.Check.{site_rule}
use Rattle.site.specs.OneSite.{OneSite}
use Rattle.loads.specs.SiteTerms.{terms_of}
use Rattle.judgement.specs.Verdicts.{acid_exceedance, nutrient_exceedance, verdict, verdict_word, within, over}

-- s and t are one site, and the pair of t has as much sulphur as that of s or less, and as much nitrogen or less
pub record Less (s t : Site) : Type 0 where
  pub one : OneSite s t
  pub sulphur : t.sulphur ≤ s.sulphur
  pub nitrogen : t.nitrogen ≤ s.nitrogen

-- Of two words: where the first is `within`, so is the second, and it is not `over`.
pub record Stays (w v : List ℕ) : Type 0 where
  pub still_within : w ≡ within → v ≡ within
  pub not_over : w ≡ within → v ≡ over → ⊥

-- the word of t beside that of s, and both exceedances
pub record NoWorse (list : List ℕ) (s t : Site) : Type 0 where
  pub word : Stays (verdict_word (verdict (terms_of list s) s.sulphur s.nitrogen)) (verdict_word (verdict (terms_of list t) t.sulphur t.nitrogen))
  pub acid : acid_exceedance (terms_of list t) t.sulphur t.nitrogen ≤ acid_exceedance (terms_of list s) s.sulphur s.nitrogen
  pub nutrient : nutrient_exceedance (terms_of list t) t.nitrogen ≤ nutrient_exceedance (terms_of list s) s.nitrogen

-- at every site that passes the check, with the list that is lent for both
abbrev pub NeverWorse : Type 0
NeverWorse = (list : List ℕ) (s t : Site) → site_rule list s ≡ Ok tt → Less s t → NoWorse list s t
