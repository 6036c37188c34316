-- A text of what a file holds, written into a lent buffer: what the call answers and what the buffer holds, for every text.
use Prim.Native.Nat.{ℕ, ◌≤◌}
use mathlib.Core.Path.{◌≡◌, refl, sym, ◌∙◌}
use mathlib.Core.List.{List}
use native.Mathlib.Omega.{arith}
use Rattle.std.specs.Prelude.{Ok, Err}
use Rattle.site.specs.declared.Refusal.{Refusal}
use Rattle.output.specs.Output.{Written, written_numbers}
use Rattle.output.proofs.OutputLaws.{count_is, refused_at_0}
use Rattle.text.proofs.TextAnswers.{AnsweredWithin}
use Rattle.record.specs.File.{Contents}
use Rattle.listing.specs.FileText.{file_answer, file_numbers, file_held, FileRoom}

module _ {A : Type 0} (most : ℕ) (text : List A → List ℕ) (c : Contents A) (d : List ℕ) where
  -- the promises of a call that writes the text of at most `most` bytes into a buffer which held d, and then holds e
  pub record FileWritten (e : List ℕ) (r : Written) : Type 0 where
    pub answer : r ≡ file_answer text c d
    pub buffer : e ≡ file_held text c d
    pub numbers : written_numbers r ≡ file_numbers text c d
    pub enough : FileRoom most text c d r

  pub file_written : (xs : List A) → c ≡ Ok xs → {e : List ℕ} {r : Written} → AnsweredWithin most (text xs) d e r → FileWritten e r
  unfolding file_answer file_held file_numbers
  file_written xs h a = record {
    answer = rw h a.answer;
    buffer = rw h a.buffer;
    numbers = rw h a.numbers;
    enough = λ ys g. let same : xs ≡ ys = cc in rw (← same) a.enough;
  }

  pub file_refused : {k : Refusal} → c ≡ Err k → FileWritten d (Err k)
  unfolding file_answer file_held file_numbers written_numbers
  file_refused h = record { answer = rw h; buffer = rw h; numbers = rw h; enough = λ xs g. (let z = sym h ∙ g in cc) }

  -- no text is longer than the longest
  pub file_count : {n : ℕ} → file_answer text c d ≡ Ok n → FileRoom most text c d (Ok n) → n ≤ most
  unfolding file_answer
  file_count {n} is room = by_contents c refl is
    where
      by_contents : (q : Contents A) → c ≡ q → file_answer text q d ≡ Ok n → n ≤ most
      by_contents (Ok xs) q e = omega (arith, count_is _ _ e, (room xs q).bounded)
      by_contents (Err k) q e = cc

  -- no refusal lies further off than those of what the file holds
  pub answer_near : (w : ℕ) → ((r : Refusal) → c ≡ Err r → r.at ≤ w) → {k : Refusal} → file_answer text c d ≡ Err k → k.at ≤ w
  unfolding file_answer
  answer_near w near {k} e = by_contents c refl e
    where
      by_contents : (q : Contents A) → c ≡ q → file_answer text q d ≡ Err k → k.at ≤ w
      by_contents (Ok xs) q e = omega (arith, refused_at_0 _ _ e)
      by_contents (Err j) q e = let same : j ≡ k = cc in rw (← same) (near j q)
