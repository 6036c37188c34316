-- The answer and the buffer, where the text does not fit and where it is written.
use Prim.Native.Nat.{ℕ, ◌≤◌, ◌<◌}
use mathlib.Core.Path.{◌≡◌, refl, sym, ap, ◌∙◌}
use mathlib.Core.List.{List, ◌++◌}
use native.Mathlib.Omega.{arith}
use lib.ListN.{length, take, drop}
use lib.Seq.{take-append_seam}
use Rattle.std.specs.Prelude.{Ok, Err}
use Rattle.site.specs.declared.Rule.TheVariants.{BufferShort}
use Rattle.site.specs.Refusal.{Checked, unless}
use Rattle.output.specs.Writing.{Wrote}
use Rattle.output.specs.Output.{Written, room_rule, held_after, written_numbers, held, held_numbers}
use Rattle.output.proofs.WritingLaws.{in_front}
use Rattle.output.proofs.OutputLaws.{answer_numbers, room_enough, room_short}
use Rattle.text.specs.TextAnswer.{text_answer, RoomWithin}
use Rattle.text.specs.TextLengths.{most_text}

-- the promises of a call that writes text into a lent buffer, which held d and then holds e
pub record AnsweredWithin (most : ℕ) (text d e : List ℕ) (r : Written) : Type 0 where
  pub answer : r ≡ text_answer text d
  pub buffer : e ≡ held text d
  pub numbers : written_numbers r ≡ held_numbers text d
  pub enough : RoomWithin most text d r

-- those of a listing or a refusal's line
abbrev pub Answered : (text d e : List ℕ) → Written → Type 0
Answered text d e r = AnsweredWithin most_text text d e r

-- the same as clauses of its contract, the last with what follows them
abbrev pub Clauses : (text d e : List ℕ) → Written → Type 0 → Type 0
Clauses text d e r Last = (r ≡ text_answer text d) × ((e ≡ held text d) × ((written_numbers r ≡ held_numbers text d) × Last))

module _ {most : ℕ} {text d e : List ℕ} {r : Written} where
  pub as_clauses : AnsweredWithin most text d e r → Clauses text d e r (RoomWithin most text d r)
  as_clauses a = (a.answer, (a.buffer, (a.numbers, a.enough)))

  pub clauses_then : {More : Type 0} → AnsweredWithin most text d e r → More → Clauses text d e r (RoomWithin most text d r × More)
  clauses_then a m = (a.answer, (a.buffer, (a.numbers, (a.enough, m))))

  pub by_clauses : Clauses text d e r (RoomWithin most text d r) → AnsweredWithin most text d e r
  by_clauses c = record { answer = c.0; buffer = c.1.0; numbers = c.1.1.0; enough = c.1.1.1 }

  pub by_clauses_then : {More : Type 0} → Clauses text d e r (RoomWithin most text d r × More) → AnsweredWithin most text d e r
  by_clauses_then c = record { answer = c.0; buffer = c.1.0; numbers = c.1.1.0; enough = c.1.1.1.0 }

-- where the text fits, how many bytes it has
text_fits : (text d : List ℕ) → length text ≤ length d → text_answer text d ≡ Ok (length text)
unfolding unless
text_fits text d h = rw (room_enough (length text) (length d) h)

-- the answer and the buffer give the rest
pub answered : {most : ℕ} (text d : List ℕ) {e : List ℕ} {r : Written} → r ≡ text_answer text d → e ≡ held text d → length text ≤ most → AnsweredWithin most text d e r
answered text d a b l = record {
  answer = a;
  buffer = b;
  numbers = ap written_numbers a ∙ answer_numbers (room_rule (length text) (length d)) (length text);
  enough = record { bounded = l; fits = λ m. a ∙ text_fits text d (omega arith) };
}

pub text_refused : {most : ℕ} (text d : List ℕ) → length d < length text → length text ≤ most → AnsweredWithin most text d d (Err (record { rule = BufferShort; at = 0 }))
unfolding unless held_after
text_refused text d h l = let short = room_short (length text) (length d) h in answered text d (rw short) (rw short) l

pub text_printed : {most : ℕ} {d e : List ℕ} {r : ℕ} (text : List ℕ) → Wrote d 0 text e r → length text ≤ length d → length text ≤ most → AnsweredWithin most text d e (Ok r)
unfolding held_after
text_printed {d = d} text w h l =
    let f = in_front w h in
    answered text d (ap Ok f.0 ∙ sym (text_fits text d h)) (rw (room_enough (length text) (length d) h) f.1) l

-- a text that has at most `most` bytes has at most as many as any more
pub room_more : {most more : ℕ} {text d : List ℕ} {r : Written} → most ≤ more → RoomWithin most text d r → RoomWithin more text d r
room_more h w = record { bounded = omega (arith, w.bounded); fits = λ m. w.fits (omega arith) }

-- where bytes were written, they are the text
pub written : (text d e : List ℕ) (r : Written) → r ≡ text_answer text d → e ≡ held text d → (n : ℕ) → r ≡ Ok n → take n e ≡ text
unfolding unless held_after
written text d e r a h n b = go (room_rule (length text) (length d)) refl
  where
    go : (t : Checked) → room_rule (length text) (length d) ≡ t → take n e ≡ text
    go (Ok tt) t =
        let a' : r ≡ Ok (length text) = rw t at a in
        let h' : e ≡ text ++ drop (length text) d = rw t at h in
        let n' : n ≡ length text = cc in
        rw (h', n', take-append_seam)
    go (Err k) t =
        let a' : r ≡ Err (record { rule = k; at = 0 }) = rw t at a in
        cc
