-- The tags that are due from one on, as a loop over them has them.
use mathlib.Core.Path.{◌≡◌, refl}
use mathlib.Core.List.{List, [], ◌∷◌}
use Prim.Native.Nat.{ℕ, suc, ◌+◌, ◌-◌, ◌≤◌, ◌<◌}
use native.Mathlib.Omega.{arith}
use lib.ListN.{length}
use Rattle.std.specs.List.{range_with_len}
use Rattle.site.specs.declared.RecordKind.{RecordKind}
use Rattle.site.specs.declared.RecordKind.TheVariants.{Tag52, Tag53, Tag54, Tag55}
use Rattle.site.specs.Kinds.{due}

abbrev pub tags_from : (last t : ℕ) → List ℕ
tags_from last t = range_with_len t (suc last - t)

pub tags_more : (last t : ℕ) → t ≤ last → tags_from last t ≡ t ∷ tags_from last (t + 1)
tags_more last t h = let e : suc last - t ≡ suc (suc last - (t + 1)) = omega arith in rw e

pub tags_none : (last t : ℕ) → last < t → tags_from last t ≡ []
tags_none last t h = let e : suc last - t ≡ 0 = omega arith in rw e

-- of every kind they are 01 to the last, without a gap
pub due_tags : (k : RecordKind) → due k ≡ tags_from (length (due k)) 1
due_tags Tag52 = refl
due_tags Tag53 = refl
due_tags Tag54 = refl
due_tags Tag55 = refl

-- and 01 to 0F are among them
pub first_fifteen : (k : RecordKind) → 15 ≤ length (due k)
first_fifteen Tag52 = omega arith
first_fifteen Tag53 = omega arith
first_fifteen Tag54 = omega arith
first_fifteen Tag55 = omega arith
