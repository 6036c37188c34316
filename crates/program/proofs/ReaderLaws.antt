-- Where a read has led, and what it gave there.
use Rattle.std.proofs.Common.{ℕ, ◌+◌, ◌<◌, ◌≡◌, ◌≢◌, ◌⊎◌, Option, Some, None, arith, refl}
use Rattle.std.proofs.lemmas.Bool.Decides.{nat_tests}
use Rattle.program.specs.declared.ReadState.{ReadState}
use Rattle.program.specs.declared.ReadState.TheVariants.{More, Ended, Failed}
use Rattle.program.specs.Reads.{after_read}

module _ (size done n : ℕ) where
  pub more_by : (k : ℕ) → after_read size done (Some k) ≡ More n → (n ≡ done + k) × (0 < k) × (n < size)
  unfolding after_read
  more_by k h = grind (arith, nat_tests)

  pub ended_by : (k : ℕ) → after_read size done (Some k) ≡ Ended n → (n ≡ done + k) × ((k ≡ 0) ⊎ (n ≡ size))
  unfolding after_read
  ended_by k h = grind (arith, nat_tests)

  pub more_is_later : (got : Option ℕ) → after_read size done got ≡ More n → (done < n) × (n < size)
  unfolding after_read
  more_is_later None h = cc
  more_is_later (Some k) h = let m = more_by k h in (omega (arith, m), m.2)

-- a reading that leaves nothing to come and has not failed has ended
pub has_ended : (r : ReadState) → ((n : ℕ) → r ≡ More n → ⊥) → r ≢ Failed → (n : ℕ) × (r ≡ Ended n)
has_ended (More n) m f = absurd (m n refl)
has_ended (Ended n) m f = (n, refl)
has_ended Failed m f = absurd (f refl)
