-- What a record that was read, or its refusal, says: the reader's promises follow from its answer.
use Prim.Native.Nat.{ℕ, ◌-◌, ◌≤◌}
use mathlib.Core.Path.{◌≡◌, sym, ap, ◌∙◌}
use mathlib.Core.List.{List}
use mathlib.Core.Logic.{⊎_elim}
use lib.ListN.{length, get_or, take, drop}
use Rattle.std.specs.Prelude.{Result, Ok, Err, IfOk, IfErr}
use Rattle.numbers.specs.TwoBytes.{AllBytes}
use Rattle.site.specs.declared.RecordKind.TheVariants.{Tag55}
use Rattle.site.specs.declared.Refusal.{Refusal}
use Rattle.site.specs.declared.Rule.TheVariants.{LoadBelowZero}
use Rattle.record.specs.declared.found.Found.{Found}
use Rattle.record.specs.Outer.{fields_at, site_at, record_at}
use Rattle.record.specs.Result.{result_numbers}
use Rattle.record.specs.Writer.{WritesAgain}
use Rattle.record.proofs.OuterLaws.{site_past}
use Rattle.record.proofs.Place.{site_fault, site_writes_again, record_ok, record_err, found_numbers}
use Rattle.record.specs.FirstFault.{LoadBroken}
use Rattle.record.proofs.LostLaws.{lost_at_field}
use Rattle.record.proofs.SparedLaws.{fields_spared}

-- where 21 is given there is the tag of field 11
pub lost_there : (list f : List ℕ) (at : ℕ) {r : Refusal} → AllBytes f → site_at list f at ≡ Err r → r.rule ≡ LoadBelowZero → get_or f r.at 0 ≡ 17
lost_there list f at {r} b e is =
    ⊎_elim (λ (i : fields_at Tag55 list f at ≡ Err r). absurd (fields_spared Tag55 list f at i is))
    (λ (l : LoadBroken Tag55 list f at r). (lost_at_field Tag55 list f at b l).tag)
    (site_fault Tag55 list f at e)

module _ (list f : List ℕ) (at : ℕ) where
  found_again : (q : Result Found Refusal) → AllBytes f → record_at list f at ≡ q → IfOk q (λ x. WritesAgain list x.site (take (x.next - at) (drop at f)))
  found_again (Ok x) b e = site_writes_again Tag55 list f at (record_ok list f at e) b
  found_again (Err r) b e = tt

  lost_at_11 : (q : Result Found Refusal) → AllBytes f → record_at list f at ≡ q → IfErr q (λ r. r.rule ≡ LoadBelowZero → get_or f r.at 0 ≡ 17)
  lost_at_11 (Ok x) b e = tt
  lost_at_11 (Err r) b e = lost_there list f at b (record_err list f at e)

  pub found_answers : (q : Result Found Refusal) → AllBytes f → record_at list f at ≡ q → record {
    answer : q ≡ record_at list f at;
    numbers : result_numbers q ≡ result_numbers (site_at list f at);
    nothing_there : length f ≤ at → result_numbers q ≡ (2, at);
    at_field_11 : IfErr q (λ r. r.rule ≡ LoadBelowZero → get_or f r.at 0 ≡ 17);
    written_again : IfOk q (λ x. WritesAgain list x.site (take (x.next - at) (drop at f)));
  }
  unfolding result_numbers
  found_answers q b e =
      let numbers : result_numbers q ≡ result_numbers (site_at list f at) = ap result_numbers (sym e) ∙ found_numbers (site_at list f at) in
      record {
        answer = sym e;
        numbers = numbers;
        nothing_there = λ past. numbers ∙ rw (site_past Tag55 list f at past);
        at_field_11 = lost_at_11 q b e;
        written_again = found_again q b e;
      }
