-- The greatest number that passes a test.
use Prim.Native.Nat.{ℕ, zero, suc, ◌≤◌, ◌<◌}
use mathlib.Core.Bool.{Bool, true, false, true≢false}
use mathlib.Core.Path.{◌≡◌, refl, sym, ◌∙◌, ap}
use mathlib.Core.Logic.{⊎_elim}
use native.Mathlib.Omega.{arith}
use Rattle.site.specs.Choice.{pick}
use Rattle.loads.specs.Hydrogen.{greatest_where}
use Rattle.site.proofs.Tests.{le_or_lt}

module _ (p : ℕ → Bool) where
  pub greatest_le : (n : ℕ) → greatest_where p n ≤ n
  unfolding greatest_where
  greatest_le zero = omega arith
  greatest_le (suc n) = go (p (suc n)) (greatest_le n)
    where
      go : (b : Bool) → greatest_where p n ≤ n → pick b (suc n) (greatest_where p n) ≤ suc n
      go true h = omega arith
      go false h = omega arith

  -- it passes, where 0 does
  pub greatest_passes : p 0 ≡ true → (n : ℕ) → p (greatest_where p n) ≡ true
  unfolding greatest_where
  greatest_passes z zero = z
  greatest_passes z (suc n) = go (p (suc n)) refl (greatest_passes z n)
    where
      go : (b : Bool) → p (suc n) ≡ b → p (greatest_where p n) ≡ true → p (pick b (suc n) (greatest_where p n)) ≡ true
      go true e h = e
      go false e h = h

  -- no greater number up to n passes
  pub greatest_most : (n j : ℕ) → j ≤ n → p j ≡ true → j ≤ greatest_where p n
  unfolding greatest_where
  greatest_most zero j h t = omega arith
  greatest_most (suc n) j h t = go (p (suc n)) refl (λ l. greatest_most n j l t)
    where
      go : (b : Bool) → p (suc n) ≡ b → (j ≤ n → j ≤ greatest_where p n) → j ≤ pick b (suc n) (greatest_where p n)
      go true e ih = h
      go false e ih =
          ⊎_elim (λ l. ih l)
          (λ g. let q : j ≡ suc n = omega arith in absurd (true≢false (sym t ∙ ap p q ∙ e)))
          (le_or_lt j n)

  -- so a number that passes, and after which none up to n does, is the one
  pub greatest_unique : p 0 ≡ true → (n g : ℕ) → g ≤ n → p g ≡ true → ((j : ℕ) → g < j → j ≤ n → p j ≡ false) → greatest_where p n ≡ g
  greatest_unique z n g l t above =
      let r = greatest_where p n in
      let up : g ≤ r = greatest_most n g l t in
      ⊎_elim (λ h. omega arith)
      (λ h. absurd (true≢false (sym (greatest_passes z n) ∙ above (greatest_where p n) h (greatest_le n))))
      (le_or_lt r g)
