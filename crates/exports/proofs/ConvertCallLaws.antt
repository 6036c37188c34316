-- What the converted file is with a target and a list that are lent, and what it gives to C.
use Prim.Native.Nat.{ℕ, ◌<◌}
use mathlib.Core.Path.{◌≡◌, refl}
use mathlib.Core.List.{List}
use native.Mathlib.Omega.{arith}
use lib.ListN.{take}
use Rattle.numbers.specs.TwoBytes.{AllBytes}
use Rattle.site.specs.SpeciesList.{list_rule, list_fault}
use Rattle.site.specs.declared.Refusal.{Refusal}
use Rattle.site.specs.declared.Rule.{Rule}
use Rattle.std.specs.Prelude.{Ok, Err, IfOk}
use Rattle.output.specs.Output.{Written}
use Rattle.listing.specs.FileText.{file_answer, file_held, FileRoom}
use Rattle.convert.specs.declared.targets.Target.{Target}
use Rattle.convert.specs.Target.{target_by}
use Rattle.convert.specs.Converted.{movable, converted, file_of, most_converted}
use Rattle.convert.specs.SameRecords.{SameRecords}
use Rattle.convert.proofs.ConvertLaws.{converted_near}
use Rattle.exports.specs.Codes.{code_base, written_code, Small}
use Rattle.exports.specs.Target.{for_target, converted_to, MovedTo}
use Rattle.exports.proofs.CodeLaws.{count_below}
use Rattle.exports.proofs.FileCallLaws.{Filed, list_refused, filed}

handed_on : (k : Target) (r : Refusal) → converted k (Err r) ≡ Err r
unfolding converted
handed_on k r = refl

module _ (t : ℕ) (list f d : List ℕ) where
  -- what the call does that takes a byte for the kind, and the list's bytes
  pub record Converted (e : List ℕ) (l : Written) : Type 0 where
    pub answer : l ≡ file_answer file_of (converted_to t list f) d
    pub buffer : e ≡ file_held file_of (converted_to t list f) d
    pub small : Small l
    pub same : IfOk l (λ n. MovedTo t list f (take n e))

  pub target_refused : {q : Rule} → target_by t ≡ Err q → Converted d (Err (record { rule = q; at = 0 }))
  unfolding file_answer file_held converted_to for_target
  target_refused {q} bad = record { answer = rw bad; buffer = rw bad; small = record { count = λ n z. cc; offset = λ k z. at_0 z }; same = tt }
    where
      at_0 : {k : Refusal} → ◌≡◌ {A = Written} (Err (record { rule = q; at = 0 })) (Err k) → k.at < code_base
      at_0 {k} z = let same : record { rule = q; at = 0 } ≡ k = cc in rw (← same) (omega arith)

  module _ (k : Target) (tag : target_by t ≡ Ok k) where
    with_kind : {e : List ℕ} {l : Written} → Filed most_converted file_of (converted k) (handed_on k) list (movable list f) d e l → IfOk l (λ n. MovedTo t list f (take n e)) → Converted e l
    unfolding converted_to for_target
    with_kind x same = record { answer = rw tag x.answer; buffer = rw tag x.buffer; small = x.small; same = same }

    pub bad_list : {r : Refusal} → list_rule list ≡ Err r.rule → r.at ≡ list_fault list → Converted d (Err r)
    bad_list bad at = with_kind (list_refused most_converted file_of (converted k) (handed_on k) list (movable list f) d bad at) tt

    pub file_converted : {e : List ℕ} {l : Written} → AllBytes f → list_rule list ≡ Ok tt
        → l ≡ file_answer file_of (converted k (movable list f)) d → e ≡ file_held file_of (converted k (movable list f)) d
        → FileRoom most_converted file_of (converted k (movable list f)) d l → IfOk l (λ n. SameRecords list k f (take n e)) → Converted e l
    file_converted {e} {l} b good answer buffer room same =
        with_kind (filed most_converted file_of (converted k) (handed_on k) list (movable list f) d good (omega arith) (converted_near list f b k) answer buffer room) (moved l same)
      where
        moved : (q : Written) → IfOk q (λ n. SameRecords list k f (take n e)) → IfOk q (λ n. MovedTo t list f (take n e))
        moved (Ok n) x = record { target = k; tag = tag; same = x }
        moved (Err r) x = tt

-- to C
pub moved_told : (t : ℕ) (list f e : List ℕ) (l : Written) {r : ℕ} → r ≡ written_code l → IfOk l (λ n. MovedTo t list f (take n e)) → r < code_base → MovedTo t list f (take r e)
moved_told t list f e l code same h = rw (count_below l code h) at same
