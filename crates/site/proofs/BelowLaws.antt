-- A rule of a whole table, by one test that is computed over it.
use Prim.Native.Nat.{ℕ, zero, suc, ◌<◌}
use mathlib.Core.Bool.{Bool, true, ◌&&◌}
use mathlib.Core.Path.{◌≡◌}
use mathlib.Core.Logic.{⊎_elim}
use native.Mathlib.Omega.{arith}
use Rattle.site.proofs.Tests.{le_or_lt, and_l, and_r}

-- a test at each number below n, and at one of them
abbrev pub all_below : (ℕ → Bool) → ℕ → Bool
all_below p zero = true
all_below p (suc n) = p n && all_below p n

pub one_below : (p : ℕ → Bool) (n : ℕ) → all_below p n ≡ true → (k : ℕ) → k < n → p k ≡ true
one_below p zero h k l = absurd (omega arith)
one_below p (suc n) h k l =
    ⊎_elim (λ (q : k < n). one_below p n (and_r (p n) (all_below p n) h) k q)
    (λ (q : n < suc k). let e : k ≡ n = omega arith in rw e (and_l (p n) (all_below p n) h))
    (le_or_lt (suc k) n)
