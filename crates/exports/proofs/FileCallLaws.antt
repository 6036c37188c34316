-- What the listing, the report and the pages of a file are with a list that is lent, and what they give to C.
use Prim.Native.Nat.{ℕ, ◌*◌, ◌≤◌, ◌<◌}
use mathlib.Core.Path.{◌≡◌, refl, sym, ap, ◌∙◌}
use mathlib.Core.List.{List}
use native.Mathlib.Omega.{arith}
use lib.ListN.{take}
use Rattle.site.specs.SpeciesList.{list_rule, list_fault}
use Rattle.site.specs.Ranges.{most_records}
use Rattle.site.specs.declared.RecordKind.TheVariants.{Tag55}
use Rattle.site.specs.declared.Site.{Site}
use Rattle.std.specs.Prelude.{Ok, Err}
use Rattle.site.specs.declared.Refusal.{Refusal}
use Rattle.site.proofs.ListLaws.{fault_near}
use Rattle.output.specs.Output.{Written, held}
use Rattle.text.specs.RefusalLine.{refusal}
use Rattle.text.specs.TextAnswer.{text_answer, RoomEnough}
use Rattle.output.proofs.OutputLaws.{count_is, refused_at_0}
use Rattle.record.specs.File.{Contents, contents}
use Rattle.record.specs.Records.{most_record}
use Rattle.record.proofs.SiteFile.{sites_fault_near}
use Rattle.listing.specs.FileText.{file_answer, file_held, FileRoom}
use Rattle.listing.specs.Reports.{printed, report_of}
use Rattle.listing.specs.PrintedDemand3.{WrittenSays, WrittenDemand3}
use Rattle.listing.proofs.FileWrittenLaws.{file_count, answer_near}
use Rattle.exports.specs.Codes.{code_base, written_code, Small}
use Rattle.exports.specs.Lent.{lent, lent_report, LentSays}
use Rattle.exports.proofs.CodeLaws.{count_below}
use Rattle.exports.proofs.LentLaws.{lent_good, lent_bad}

-- ---- a text of the sites that a file holds: the listing, the pages; and of what `step` makes of them, where it hands on a refusal: the converted file

module _ (most : ℕ) (text : List Site → List ℕ) (step : Contents Site → Contents Site) (handed_on : (r : Refusal) → step (Err r) ≡ Err r) (list : List ℕ) (held : Contents Site) (d : List ℕ) where
  -- what the call does that takes the list's bytes
  pub record Filed (e : List ℕ) (l : Written) : Type 0 where
    pub answer : l ≡ file_answer text (step (lent list held)) d
    pub buffer : e ≡ file_held text (step (lent list held)) d
    pub small : Small l

  pub list_refused : {r : Refusal} → list_rule list ≡ Err r.rule → r.at ≡ list_fault list → Filed d (Err r)
  unfolding file_answer file_held
  list_refused {r} bad at =
      let is : step (lent list held) ≡ Err r = ap step (lent_bad list held bad at) ∙ handed_on r in
      record {
        answer = rw is;
        buffer = rw is;
        small = record { count = λ n q. cc; offset = λ k q. near at q };
      }
    where
      near : {j k : Refusal} → j.at ≡ list_fault list → ◌≡◌ {A = Written} (Err j) (Err k) → k.at < code_base
      near {j} {k} place q = let z : j ≡ k = cc in rw (← z) (omega (arith, place, fault_near list))

  pub filed : {e : List ℕ} {l : Written} → list_rule list ≡ Ok tt → most < code_base → ((r : Refusal) → step held ≡ Err r → r.at ≤ most_record * most_records)
      → l ≡ file_answer text (step held) d → e ≡ file_held text (step held) d → FileRoom most text (step held) d l → Filed e l
  filed good fits near answer buffer room =
      let is = lent_good list held good in
      record {
        answer = rw is answer;
        buffer = rw is buffer;
        small = record {
          count = λ n q. omega (arith, file_count most text (step held) d (sym answer ∙ q) (rw q at room));
          offset = λ k q. omega (arith, answer_near most text (step held) d (most_record * most_records) near (sym answer ∙ q));
        };
      }

-- the sites themselves: what is listed or put on pages
module _ (most : ℕ) (text : List Site → List ℕ) (Say : List ℕ → List Site → List ℕ → Type 0) (list f d : List ℕ) where
  pub record Says (e : List ℕ) (l : Written) : Type 0 where
    pub filed : Filed most text (λ c. c) (λ r. refl) list (contents list f) d e l
    pub demand3 : list_rule list ≡ Ok tt → WrittenSays Say list f e l

  pub says_refused : {r : Refusal} → list_rule list ≡ Err r.rule → r.at ≡ list_fault list → Says d (Err r)
  says_refused bad at = record { filed = list_refused most text (λ c. c) (λ r. refl) list (contents list f) d bad at; demand3 = λ good n q. cc }

  pub says_filed : {e : List ℕ} {l : Written} → list_rule list ≡ Ok tt → most < code_base
      → l ≡ file_answer text (contents list f) d → e ≡ file_held text (contents list f) d → WrittenSays Say list f e l → FileRoom most text (contents list f) d l → Says e l
  says_filed good fits answer buffer says room =
      record { filed = filed most text (λ c. c) (λ r. refl) list (contents list f) d good fits (λ r e. sites_fault_near Tag55 list f e) answer buffer room; demand3 = λ g. says }

-- ---- the report

module _ (list f d : List ℕ) where
  pub record Reports (e : List ℕ) (l : Written) : Type 0 where
    pub answer : l ≡ text_answer (lent_report list f) d
    pub buffer : e ≡ held (lent_report list f) d
    pub small : Small l
    pub demand3 : list_rule list ≡ Ok tt → WrittenDemand3 list f e l

  small_text : {text : List ℕ} {l : Written} → l ≡ text_answer text d → RoomEnough text d l → Small l
  small_text is room = record {
    count = λ n q. omega (arith, count_is _ _ (sym is ∙ q), room.bounded);
    offset = λ k q. omega (arith, refused_at_0 _ _ (sym is ∙ q));
  }

  pub report_refused : {e : List ℕ} {l : Written} {r : Refusal} → list_rule list ≡ Err r.rule → r.at ≡ list_fault list
      → l ≡ text_answer (refusal r.rule r.at) d → e ≡ held (refusal r.rule r.at) d → RoomEnough (refusal r.rule r.at) d l → Reports e l
  unfolding printed
  report_refused bad at answer buffer room =
      let is = lent_bad list (contents list f) bad at in
      record { answer = rw is answer; buffer = rw is buffer; small = small_text answer room; demand3 = λ good. (let z = sym bad ∙ good in cc) }

  pub reported_lent : {e : List ℕ} {l : Written} → list_rule list ≡ Ok tt
      → l ≡ text_answer (report_of list f) d → e ≡ held (report_of list f) d → WrittenDemand3 list f e l → RoomEnough (report_of list f) d l → Reports e l
  unfolding report_of
  reported_lent good answer buffer says room =
      let is = lent_good list (contents list f) good in
      record { answer = rw is answer; buffer = rw is buffer; small = small_text answer room; demand3 = λ g. says }

-- ---- to C

pub told : (Say : List ℕ → List Site → List ℕ → Type 0) (list f e : List ℕ) (l : Written) {r : ℕ} → r ≡ written_code l
    → (list_rule list ≡ Ok tt → WrittenSays Say list f e l) → r < code_base → LentSays Say list f (take r e)
told Say list f e l {r} code says h good = says good r (count_below l code h)
