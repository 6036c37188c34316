-- The search: which levels it compares, step by step, how many they are, and that the last step leaves the greatest allowed level.
use Prim.Native.Nat.{ℕ, zero, suc, ◌+◌, ◌-◌, ◌/◌, ◌^◌, ◌≤◌, ◌<◌}
use mathlib.Core.Bool.{Bool, true, false}
use mathlib.Core.Logic.{⊎_elim}
use mathlib.Core.Path.{◌≡◌, refl, ◌∙◌, ap}
use mathlib.Core.List.{List, [], ◌∷◌}
use native.Mathlib.Omega.{arith}
use native.Mathlib.Nat.{two-pow-succ}
use lib.ListN.{length}
use borrow.Author.Tests.{le-leb, lt-leb, leb-false}
use Rattle.site.specs.Choice.{pick}
use Rattle.site.proofs.Tests.{le_or_lt}
use Rattle.loads.specs.Hydrogen.{al_of, within_limit, level_of, Levels}
use Rattle.loads.specs.Search.{means_in, means, compared_of, searched_of, FewCompared}
use Rattle.loads.proofs.LevelLaws.{al_of-zero, al_of-one, level_is}

-- ---- the means between two levels

module _ (allowed : ℕ → Bool) where
  in_none : (low high : ℕ) → means_in 0 allowed low high ≡ []
  unfolding means_in
  in_none low high = refl

  -- none where the two are neighbours
  in_end : (n low high : ℕ) → high ≤ low + 1 → means_in n allowed low high ≡ []
  unfolding means_in
  in_end zero low high h = refl
  in_end (suc n) low high h = rw (le-leb high (low + 1) h)

  -- else the mean, and then those between it and one of the two
  in_next :
      (n low high : ℕ) → low + 1 < high
      → means_in (suc n) allowed low high
      ≡ (low + high) / 2 ∷ pick (allowed ((low + high) / 2)) (means_in n allowed ((low + high) / 2) high) (means_in n allowed low ((low + high) / 2))
  unfolding means_in
  in_next n low high w = rw (lt-leb high (low + 1) w)

  -- steps that are enough give the same as any others that are
  in_enough : (n m low high : ℕ) → high - low ≤ n → high - low ≤ m → means_in n allowed low high ≡ means_in m allowed low high
  in_enough zero m low high a b = rw (in_end 0 low high (omega arith), in_end m low high (omega arith))
  in_enough (suc n) zero low high a b = rw (in_end (suc n) low high (omega arith), in_end 0 low high (omega arith))
  in_enough (suc n) (suc m) low high a b =
      ⊎_elim (λ near. rw (in_end (suc n) low high near, in_end (suc m) low high near))
      (λ wide. rw (
        in_next n low high wide,
        in_next m low high wide,
        in_enough n m ((low + high) / 2) high (omega arith) (omega arith),
        in_enough n m low ((low + high) / 2) (omega arith) (omega arith),
      ))
      (le_or_lt high (low + 1))

  -- between two levels at most 2 ^ k apart there are at most k means
  in_few : (n k low high : ℕ) → high - low ≤ 2 ^ k → length (means_in n allowed low high) ≤ k
  in_few zero k low high h = rw (in_none low high) (omega arith)
  in_few (suc n) zero low high h = rw (in_end (suc n) low high (omega arith)) (omega arith)
  in_few (suc n) (suc k) low high h =
      let middle = (low + high) / 2 in
      ⊎_elim (λ near. rw (in_end (suc n) low high near) (omega arith))
      (λ wide. rw (in_next n low high wide)
      (go (means_in n allowed middle high) (means_in n allowed low middle) (allowed middle)
      (in_few n k middle high (omega (arith, two-pow-succ k)))
      (in_few n k low middle (omega (arith, two-pow-succ k)))))
      (le_or_lt high (low + 1))
    where
      go : (xs ys : List ℕ) (b : Bool) → length xs ≤ k → length ys ≤ k → length ((low + high) / 2 ∷ pick b xs ys) ≤ suc k
      go xs ys true x y = omega arith
      go xs ys false x y = omega arith

  module _ (low high : ℕ) where
    pub means_end : high ≤ low + 1 → means allowed low high ≡ []
    unfolding means
    means_end near = in_end (high - low) low high near

    next :
        low + 1 < high
        → means allowed low high
        ≡ (low + high) / 2 ∷ pick (allowed ((low + high) / 2)) (means allowed ((low + high) / 2) high) (means allowed low ((low + high) / 2))
    unfolding means
    next wide =
        let middle = (low + high) / 2 in
        in_enough (high - low) (suc (high - low)) low high (omega arith) (omega arith)
        ∙ in_next (high - low) low high wide
        ∙ ap (λ xs. middle ∷ pick (allowed middle) xs (means_in (high - low) allowed low middle)) (in_enough (high - low) (high - middle) middle high (omega arith) (omega arith))
        ∙ ap (λ ys. middle ∷ pick (allowed middle) (means_in (high - middle) allowed middle high) ys) (in_enough (high - low) (middle - low) low middle (omega arith) (omega arith))

    -- an allowed mean is the next low, one that is not the next high
    pub means_raised : low + 1 < high → allowed ((low + high) / 2) ≡ true → means allowed low high ≡ (low + high) / 2 ∷ means allowed ((low + high) / 2) high
    means_raised wide e = next wide ∙ rw e

    pub means_lowered : low + 1 < high → allowed ((low + high) / 2) ≡ false → means allowed low high ≡ (low + high) / 2 ∷ means allowed low ((low + high) / 2)
    means_lowered wide e = next wide ∙ rw e

    -- so there is one where the two are not neighbours
    means_some : low + 1 < high → 1 ≤ length (means allowed low high)
    means_some wide = rw (next wide) (omega arith)

    pub means_few : (k : ℕ) → high - low ≤ 2 ^ k → length (means allowed low high) ≤ k
    unfolding means
    means_few k h = in_few (high - low) k low high h

-- ---- the levels compared

module _ (q k limit ceiling : ℕ) where
  -- the ceiling alone, where it is allowed
  compared_ceiling : within_limit q k limit ceiling ≡ true → compared_of q k limit ceiling ≡ ceiling ∷ []
  unfolding compared_of
  compared_ceiling e = rw e

  -- else the means between 0 and the ceiling behind it
  compared_below : within_limit q k limit ceiling ≡ false → compared_of q k limit ceiling ≡ ceiling ∷ means (within_limit q k limit) 0 ceiling
  unfolding compared_of
  compared_below e = rw e

  -- levels 0 and 1 bring no aluminium, so a ceiling that is not allowed is at least 2
  above_one : Levels q k ceiling → limit < al_of q k ceiling → 1 < ceiling
  above_one b over =
      ⊎_elim
      (λ low. absurd (⊎_elim
      (λ none. let e : ceiling ≡ 0 = omega arith in omega (arith, rw e at over, al_of-zero q k))
      (λ some. let e : ceiling ≡ 1 = omega arith in omega (arith, rw e at over, al_of-one b.percolation b.gibbsite))
      (le_or_lt ceiling 0)))
      (λ high. high)
      (le_or_lt ceiling 1)

  pub few_compared : Levels q k ceiling → FewCompared q k limit ceiling (length (compared_of q k limit ceiling))
  few_compared b =
      ⊎_elim
      (λ kept. rw (compared_ceiling (le-leb (al_of q k ceiling) limit kept)) record { one = (λ e. kept, λ h. refl); most = omega arith })
      (λ over.
      rw (compared_below (lt-leb (al_of q k ceiling) limit over))
      record {
        one = (λ e. absurd (omega (arith, means_some (within_limit q k limit) 0 ceiling (above_one b over))), λ h. absurd (omega arith));
        most = omega (arith, means_few (within_limit q k limit) 0 ceiling 13 (omega (arith, b.level)));
      })
      (le_or_lt (al_of q k ceiling) limit)

-- ---- the search between low, which is allowed, and high, which is not, after so many levels

pub record SearchState (q k limit ceiling low high compared : ℕ) : Type 0 where
  pub order : low < high
  pub under : high ≤ ceiling
  pub kept : within_limit q k limit low ≡ true
  pub over : within_limit q k limit high ≡ false
  pub count : compared + length (means (within_limit q k limit) low high) ≡ length (compared_of q k limit ceiling)

module _ {q k limit ceiling : ℕ} where
  pub search_starts : Levels q k ceiling → within_limit q k limit ceiling ≡ false → SearchState q k limit ceiling 0 ceiling 1
  search_starts b above = record {
    order = omega (arith, above_one q k limit ceiling b (leb-false (al_of q k ceiling) limit above));
    under = omega arith;
    kept = le-leb (al_of q k 0) limit (omega (arith, al_of-zero q k));
    over = above;
    count = rw (compared_below q k limit ceiling above) (omega arith);
  }

  module _ {low high n : ℕ} (s : SearchState q k limit ceiling low high n) where
    pub search_raises : low + 1 < high → within_limit q k limit ((low + high) / 2) ≡ true → SearchState q k limit ceiling ((low + high) / 2) high (n + 1)
    search_raises wide e = record {
      order = omega (arith, wide);
      under = s.under;
      kept = e;
      over = s.over;
      count = omega (arith, s.count, ap length (means_raised (within_limit q k limit) low high wide e));
    }

    pub search_lowers : low + 1 < high → within_limit q k limit ((low + high) / 2) ≡ false → SearchState q k limit ceiling low ((low + high) / 2) (n + 1)
    search_lowers wide e = record {
      order = omega (arith, wide);
      under = omega (arith, s.under, wide);
      kept = s.kept;
      over = e;
      count = omega (arith, s.count, ap length (means_lowered (within_limit q k limit) low high wide e));
    }

    -- 14 levels at most, so the count is far from its type's end
    pub search_fits : Levels q k ceiling → n ≤ 14
    search_fits b = omega (arith, s.count, (few_compared q k limit ceiling b).most)

    pub search_ends : high ≤ low + 1 → record { level = low; compared = n } ≡ searched_of q k limit ceiling
    unfolding searched_of
    search_ends near =
        let up : high ≡ suc low = omega (arith, s.order, near) in
        let found : level_of q k limit ceiling ≡ low = level_is q k limit ceiling low (omega (arith, s.order, s.under)) s.kept (λ h. rw up at s.over) in
        let done : n ≡ length (compared_of q k limit ceiling) = omega (arith, s.count, ap length (means_end (within_limit q k limit) low high near)) in
        rw (found, ← done)

pub search_at_once : (q k limit ceiling : ℕ) → within_limit q k limit ceiling ≡ true → record { level = ceiling; compared = 1 } ≡ searched_of q k limit ceiling
unfolding searched_of
search_at_once q k limit ceiling e =
    rw (level_is q k limit ceiling ceiling (omega arith) e (λ l. absurd (omega arith)), compared_ceiling q k limit ceiling e)
