-- What the reads bring where it is known which bytes the reader has left: the file, whole and in order, as far as the buffer takes it.
use Rattle.std.proofs.Common.{ℕ, ◌+◌, ◌<◌, ◌≤◌, ◌≡◌, ◌≢◌, List, [], ◌++◌, Option, Some, None, IfSome, refl, sym, ◌∙◌, arith, length, take, drop}
use Rattle.std.proofs.Math.Seq.{take-add}
use Rattle.std.proofs.lemmas.List.{length-drop}
use Rattle.std.proofs.KnownBytes.{Consumes-trans}
use Rattle.std.proofs.lemmas.Grind.{common_steps}
use Rattle.std.specs.Io.KnownBytes.{Consumes, IsAtEnd}
use Rattle.program.specs.declared.Input.{Input}
use Rattle.program.specs.declared.ReadState.TheVariants.{More, Ended, Failed}
use Rattle.program.specs.Printing.{ReadFrom}
use Rattle.program.specs.Reads.{after_read, Given, ReadOnce}
use Rattle.program.proofs.ReaderLaws.{more_by, ended_by, has_ended}

-- the buffer's first n bytes are all that the reader lost, and they are the whole buffer or all that there is
front_is : (f b rest : List ℕ) (n : ℕ) → n ≤ length b → f ≡ take n b ++ rest → (n < length b → rest ≡ []) → take n b ≡ take (length b) f
front_is f b rest n l h e = grind (arith, common_steps)

front_lost : (f b : List ℕ) (c : Option (List ℕ)) (n : ℕ) → n ≤ length b → Consumes (Some f) c (take n b) → (n < length b → IsAtEnd c)
    → take n b ≡ take (length b) f
front_lost f b None n l h e = absurd h
front_lost f b (Some rest) n l h e = front_is f b rest n l h e

-- `done` bytes are there that the reader lost, and a read puts more behind them
module _ (a b c : Option (List ℕ)) {before after : List ℕ} {done : ℕ} {i : Input} (once : ReadOnce before after done i)
    (lost : Consumes a b (take done before)) (given : Given b c (drop done after) i.last) where
  both : (k : ℕ) → Consumes b c (take k (drop done after)) → Consumes a c (take (done + k) after)
  both k h = rw (take-add done k after, once.kept) (Consumes-trans a b c _ _ lost h)

  by_more : (n : ℕ) (got : Option ℕ) → Given b c (drop done after) got → after_read (length before) done got ≡ More n → Consumes a c (take n after)
  unfolding after_read
  by_more n None g e = cc
  by_more n (Some k) g e = rw (more_by _ _ _ k e).0 (both k g.0)

  pub more_lost : (n : ℕ) → i.reading ≡ More n → Consumes a c (take n after)
  more_lost n e = by_more n i.last given (sym once.next ∙ e)

  module _ (size : length after ≡ length before) (within : done ≤ length after) where
    by_end : (f : List ℕ) (n : ℕ) (got : Option ℕ) → a ≡ Some f → Given b c (drop done after) got → after_read (length before) done got ≡ Ended n
        → take n after ≡ take (length after) f
    unfolding after_read
    by_end f n None k g e = cc
    by_end f n (Some m) k g e =
        let end = ended_by _ _ _ m e in
        front_lost f after c n (omega (arith, end)) (rw (← k, end.0) (both m g.0)) (λ s. g.1 (omega (arith, end)) (omega (arith, end, length-drop done after)))

    pub whole_read : ((n : ℕ) → i.reading ≡ More n → ⊥) → IfSome a (λ f. i.reading ≢ Failed → ReadFrom f after i.reading)
    whole_read s = if_some a (λ f k h.
        let end = has_ended i.reading s h in
        record { count = end.0; ended = end.1; bytes = by_end f end.0 i.last k given (sym once.next ∙ end.1) })
      where
        if_some : (o : Option (List ℕ)) {P : List ℕ → Type 0} → ((f : List ℕ) → o ≡ Some f → P f) → IfSome o P
        if_some None h = tt
        if_some (Some f) h = h f refl
