-- What stands in a buffer after a run of stores.
use Rattle.std.specs.Prelude.{ℕ, suc, ◌+◌, ◌≤◌, ◌<◌, ◌≡◌, List, [], ◌∷◌, length, set}

-- d with xs stored from index at; a store past the end changes nothing
unfoldable pub write : {A : Type 0} → List A → ℕ → List A → List A
write d at [] = d
write d at (x ∷ xs) = write (set d at x) (suc at) xs

-- from d, with xs written at index at, comes the buffer e and the next index r
pub record Wrote {A : Type 0} (d : List A) (at : ℕ) (xs : List A) (e : List A) (r : ℕ) : Type 0 where
  pub next : r ≡ at + length xs
  pub text : e ≡ write d at xs

-- the same where there is room; where there is none, nothing is written and the index stays
pub record WroteIf {A : Type 0} (d : List A) (at : ℕ) (xs : List A) (e : List A) (r : ℕ) : Type 0 where
  pub fits : at + length xs ≤ length d → Wrote d at xs e r
  pub short : length d < at + length xs → (e ≡ d) × (r ≡ at)
