-- What a converted file keeps: it passes the checks with the same terms, loads and marks, and converts back to the bytes it came from.
use Rattle.std.specs.Prelude.{ℕ, ◌<◌, ◌≡◌, List, length, get_or, map, Ok}
use Rattle.site.specs.declared.RecordKind.{RecordKind}
use Rattle.site.specs.declared.Site.{Site}
use Rattle.field.specs.Field.{blank_site}
use Rattle.loads.specs.SiteTerms.{terms_of}
use Rattle.judgement.specs.Answers.{judged_of}
use Rattle.record.specs.File.{contents}
use Rattle.convert.specs.declared.targets.Target.{Target}
use Rattle.convert.specs.Target.{kind_of}
use Rattle.listing.specs.Reports.{report_of}
use Rattle.convert.specs.Moved.{moved}
use Rattle.convert.specs.Converted.{movable, converted, file_of}

-- all of one kind
abbrev pub OfKind : RecordKind → List Site → Type 0
OfKind k ss = (i : ℕ) → i < length ss → (get_or ss i blank_site).kind ≡ k

-- With the list that is lent: the file g is the file f with every record moved to kind k. g passes the checks. Each of its sites has the terms of the site it comes
-- from, on which loads and marks are defined, and the same loads and mark; what is printed for g is what is printed for f. Where all records of f are of one kind, g
-- converts back to the bytes of f; where this is k, g is f.
pub record SameRecords (list : List ℕ) (k : Target) (f g : List ℕ) : Type 0 where
  pub sites : List Site
  pub holds : contents list f ≡ Ok sites
  pub passes : contents list g ≡ Ok (map (moved k) sites)
  pub terms : map (terms_of list) (map (moved k) sites) ≡ map (terms_of list) sites
  pub judged : map (judged_of list) (map (moved k) sites) ≡ map (judged_of list) sites
  pub listed : report_of list g ≡ report_of list f
  pub back : (j : Target) → OfKind (kind_of j) sites → (converted j (movable list g) ≡ Ok sites) × (file_of sites ≡ f)
  pub itself : OfKind (kind_of k) sites → g ≡ f
