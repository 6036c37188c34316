-- The writer's promises, by the three ways in which a write ends.
use mathlib.Core.Path.{◌≡◌, refl, ap, ◌∙◌}
use mathlib.Core.List.{List}
use Prim.Native.Nat.{ℕ, ◌≤◌, ◌<◌}
use lib.ListN.{length, take, drop}
use lib.Seq.{take_at}
use Rattle.std.specs.Prelude.{Ok, Err, IfOk}
use Rattle.site.specs.declared.Site.{Site}
use Rattle.site.specs.declared.Rule.{Rule}
use Rattle.site.specs.declared.Rule.TheVariants.{BufferShort}
use Rattle.site.specs.Refusal.{Checked, unless}
use Rattle.loads.specs.Check.{site_rule}
use Rattle.site.proofs.Passing.{both_passed}
use Rattle.record.specs.Outer.{read_record}
use Rattle.field.specs.Clean.{clean, Sized}
use Rattle.record.specs.Writer.{encode, write_rule}
use Rattle.output.specs.Output.{Written, output_rule, held_after, write_answer, written_numbers, output_numbers}
use Rattle.output.specs.Writing.{Wrote}
use Rattle.output.proofs.WritingLaws.{in_front}
use Rattle.output.proofs.OutputLaws.{answer_numbers, output_broken, output_short, output_whole}
use Rattle.record.proofs.RoundTrip.{read_written}

module _ (list : List ℕ) (s : Site) (z : Sized s) (old : List ℕ) where
  abbrev rule : Checked
  rule = write_rule list s (length old)

  abbrev Promises : Written → List ℕ → Type 0
  Promises w new = record {
    answer : w ≡ write_answer rule (length (encode s));
    buffer : new ≡ held_after rule (encode s) old;
    numbers : written_numbers w ≡ output_numbers rule (length (encode s));
    read_again : IfOk w (λ n. read_record list (take n new) ≡ Ok (clean s));
  }

  is_read_again : (c : Checked) → rule ≡ c → IfOk (write_answer c (length (encode s))) (λ n. read_record list (take n (held_after c (encode s) old)) ≡ Ok (clean s))
  unfolding output_rule unless held_after
  is_read_again (Ok tt) e = rw (take_at (encode s) (drop (length (encode s)) old) (length (encode s)) refl) (read_written list s z (both_passed _ _ e).0)
  is_read_again (Err r) e = tt

  promised : (w : Written) (new : List ℕ) → w ≡ write_answer rule (length (encode s)) → new ≡ held_after rule (encode s) old → Promises w new
  promised w new a e = record { answer = a; buffer = e; numbers = ap written_numbers a ∙ answer_numbers rule (length (encode s)); read_again = rw (a, e) (is_read_again rule refl) }

  pub write_broken : (r : Rule) → site_rule list s ≡ Err r → Promises (Err (record { rule = r; at = 0 })) old
  unfolding unless held_after
  write_broken r e =
      let q : rule ≡ Err r = output_broken _ _ (site_rule list s) r e in
      promised _ old (rw q) (rw q)

  pub write_short : site_rule list s ≡ Ok tt → length old < length (encode s) → Promises (Err (record { rule = BufferShort; at = 0 })) old
  unfolding unless held_after
  write_short e h =
      let q : rule ≡ Err BufferShort = output_short _ _ (site_rule list s) e h in
      promised _ old (rw q) (rw q)

  pub write_whole : {n : ℕ} {new : List ℕ} → site_rule list s ≡ Ok tt → length (encode s) ≤ length old → Wrote old 0 (encode s) new n → Promises (Ok n) new
  unfolding unless held_after
  write_whole {n} {new} e h w =
      let q : rule ≡ (Ok tt) = output_whole _ _ (site_rule list s) e h in
      promised (Ok n) new (rw q (ap Ok (in_front w h).0)) (rw q (in_front w h).1)
