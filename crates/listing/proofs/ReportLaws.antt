-- What the program prints: longer files, and one site in two files.
use Prim.Native.Nat.{ℕ, suc, ◌≤◌, ◌<◌}
use mathlib.Core.Path.{◌≡◌, ap}
use mathlib.Core.List.{List}
use lib.ListN.{length, get_or, take}
use Rattle.std.specs.Prelude.{Ok}
use Rattle.site.specs.declared.Site.{Site}
use Rattle.judgement.specs.Balance.{Says}
use Rattle.judgement.proofs.AtSites.{told_stays}
use Rattle.field.specs.Field.{blank_site}
use Rattle.record.specs.File.{contents, most_file}
use Rattle.record.proofs.SiteFile.{sites_more}
use Rattle.text.specs.Words.{last_word, line_at}
use Rattle.listing.specs.Reports.{printed, report_of}
use Rattle.listing.specs.PrintedDemand3.{Demand3, MarksNeverWorse, PrintedNeverWorse}
use Rattle.listing.proofs.Demand3Laws.{passed, listing_says}

-- demand 3 in what is printed
pub report_says : (list f : List ℕ) → Demand3 list f (report_of list f)
unfolding report_of printed
report_says list f ss e = rw e (listing_says list f ss e)

-- bytes past those that are looked at change nothing of what is printed
pub report_take : (list f : List ℕ) (m : ℕ) → most_file ≤ m → report_of list (take m f) ≡ report_of list f
unfolding report_of
report_take list f m h = ap (printed list) (sites_more list f m h)

-- less deposition is never worse, in all texts of which demand 3 holds, however the marks are read
abbrev MarksSay : (ℕ → List ℕ → List ℕ) → (list f x : List ℕ) → Type 0
MarksSay mark list f x = (ss : List Site) → contents list f ≡ Ok ss → (k : ℕ) → k < length ss → Says list (mark k x) (get_or ss k blank_site)

pub marks_stay : (mark : ℕ → List ℕ → List ℕ) (list f x g y : List ℕ) → MarksSay mark list f x → MarksSay mark list g y → MarksNeverWorse mark list f x g y
marks_stay mark list f x g y df dg ss ts hf hg k l kl ll less =
    told_stays list (get_or ss k blank_site) (passed list f ss hf k kl) (get_or ts l blank_site) less.one less.sulphur less.nitrogen (df ss hf k kl) (dg ts hg l ll)

pub texts_stay : (list f x g y : List ℕ) → Demand3 list f x → Demand3 list g y → PrintedNeverWorse list f x g y
texts_stay list f x g y df dg = marks_stay (λ (k : ℕ) (t : List ℕ). last_word (line_at (suc k) t)) list f x g y (λ ss h. (df ss h).says) (λ ss h. (dg ss h).says)

-- and so in what is printed
pub report_stays : (list f g : List ℕ) → PrintedNeverWorse list f (report_of list f) g (report_of list g)
report_stays list f g = texts_stay list f (report_of list f) g (report_of list g) (report_says list f) (report_says list g)
