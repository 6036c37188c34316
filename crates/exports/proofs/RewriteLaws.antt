-- A record read and written again, with a list that is lent: what the call does, by the way that it ends.
use Prim.Native.Nat.{ℕ, ◌≤◌}
use mathlib.Core.Path.{◌≡◌, refl, sym, ap, ◌∙◌}
use mathlib.Core.List.{List}
use native.Mathlib.Omega.{arith}
use lib.ListN.{length}
use Rattle.std.specs.Prelude.{Result, Ok, Err}
use Rattle.loads.specs.Check.{site_rule}
use Rattle.site.specs.SpeciesList.{list_rule}
use Rattle.site.specs.declared.Refusal.{Refusal}
use Rattle.site.specs.declared.Site.{Site}
use Rattle.record.specs.Records.{most_record}
use Rattle.record.specs.Outer.{read_record}
use Rattle.record.specs.Writer.{encode, write_rule, WritesAgain}
use Rattle.record.proofs.RoundTrip.{read_short, read_fault_near}
use Rattle.output.specs.Output.{Written, room_rule, held_after, write_answer}
use Rattle.output.proofs.OutputLaws.{output_room, count_is, refused_at_0}
use Rattle.exports.specs.Codes.{Small, rewrite_answer, rewrite_held}
use Rattle.exports.specs.Lent.{lent}
use Rattle.exports.proofs.LentLaws.{lent_good, lent_ok, lent_at}

module _ (list b old : List ℕ) where
  abbrev read : Result Site Refusal
  read = lent list (read_record list b)

  -- what the call does
  pub record Rewritten (e : List ℕ) (l : Written) : Type 0 where
    pub answer : l ≡ rewrite_answer read b old
    pub buffer : e ≡ rewrite_held read b old
    pub small : Small l

  -- counts and offsets are small: a record has at most 258 bytes
  counted : (q : Result Site Refusal) → read ≡ q → {n : ℕ} → rewrite_answer q b old ≡ Ok n → n ≤ most_record
  unfolding rewrite_answer
  counted (Ok s) p q = omega (arith, count_is _ _ q, read_short list b (lent_ok list (read_record list b) p).1)
  counted (Err r) p q = cc

  placed : (q : Result Site Refusal) → read ≡ q → {k : Refusal} → rewrite_answer q b old ≡ Err k → k.at ≤ 7680
  unfolding rewrite_answer
  placed (Ok s) p q = omega (arith, refused_at_0 _ _ q)
  placed (Err r) p {k} q =
      let same : r ≡ k = cc in
      rw (← same) (lent_at list (read_record list b) (λ j e. omega (arith, read_fault_near list b e)) (omega arith) r p)

  made : {e : List ℕ} {l : Written} → l ≡ rewrite_answer read b old → e ≡ rewrite_held read b old → Rewritten e l
  made answer buffer = record {
    answer = answer;
    buffer = buffer;
    small = record {
      count = λ n q. omega (arith, counted _ refl (sym answer ∙ q));
      offset = λ k q. omega (arith, placed _ refl (sym answer ∙ q));
    };
  }

  -- a list or a record that is refused
  pub not_read : {r : Refusal} → read ≡ Err r → Rewritten old (Err r)
  unfolding rewrite_answer rewrite_held
  not_read e = made (rw e) (rw e)

  -- a record that is read passes the writer's check and is written as its own bytes, so that only 11 can come
  pub rewritten : {s : Site} {new : List ℕ} {w : Written} → list_rule list ≡ Ok tt → read_record list b ≡ Ok s → WritesAgain list s b
      → w ≡ write_answer (write_rule list s (length old)) (length (encode s)) → new ≡ held_after (write_rule list s (length old)) (encode s) old → Rewritten new w
  unfolding rewrite_answer rewrite_held
  rewritten {s} good e again a h =
      let is = lent_good list (read_record list b) good ∙ e in
      let room : write_rule list s (length old) ≡ room_rule (length b) (length old) =
      output_room _ _ (site_rule list s) again.passes ∙ ap (λ xs. room_rule (length xs) (length old)) again.bytes in
      made (rw is (rw (room, again.bytes) at a)) (rw is (rw (room, again.bytes) at h))
