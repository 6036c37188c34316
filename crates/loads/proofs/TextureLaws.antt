-- The texture class by the tests that lead to it.
use Prim.Native.Nat.{ℕ, ◌≤◌, ◌<◌}
use mathlib.Core.Bool.{Bool, true, false, ◌&&◌}
use mathlib.Core.Path.{◌≡◌}
use native.Mathlib.Omega.{arith}
use borrow.Author.Tests.{le-leb, lt-leb, lt-ltb, le-ltb}
use lib.Dec.{leb, ltb}
use Rattle.site.specs.Choice.{pick}
use Rattle.loads.specs.Texture.{texture_of}

module _ (clay sand : ℕ) where
  pub very_fine : 60 ≤ clay → texture_of clay sand ≡ 5
  unfolding texture_of
  very_fine h = simp (le-leb 60 clay h)

  pub fine : 35 ≤ clay → clay < 60 → texture_of clay sand ≡ 4
  unfolding texture_of
  fine h i = simp (le-leb 35 clay h, lt-leb 60 clay i)

  pub medium_fine : clay < 35 → sand < 15 → texture_of clay sand ≡ 3
  unfolding texture_of
  medium_fine h i = let g : clay < 60 = omega arith in simp (lt-leb 60 clay g, lt-leb 35 clay h, lt-ltb sand 15 i)

  pub coarse : clay < 18 → 65 ≤ sand → texture_of clay sand ≡ 1
  unfolding texture_of
  coarse h i =
      let g : clay < 60 = omega arith in
      let k : clay < 35 = omega arith in
      let j : 15 ≤ sand = omega arith in
      simp (lt-leb 60 clay g, lt-leb 35 clay k, le-ltb sand 15 j, lt-ltb clay 18 h, le-leb 65 sand i)

  pub medium_light : clay < 18 → 15 ≤ sand → sand < 65 → texture_of clay sand ≡ 2
  unfolding texture_of
  medium_light h j i =
      let g : clay < 60 = omega arith in
      let k : clay < 35 = omega arith in
      simp (lt-leb 60 clay g, lt-leb 35 clay k, le-ltb sand 15 j, lt-ltb clay 18 h, lt-leb 65 sand i)

  pub medium_heavy : 18 ≤ clay → clay < 35 → 15 ≤ sand → texture_of clay sand ≡ 2
  unfolding texture_of
  medium_heavy h k j =
      let g : clay < 60 = omega arith in
      simp (lt-leb 60 clay g, lt-leb 35 clay k, le-ltb sand 15 j, le-ltb clay 18 h)

pick-between : {x y : ℕ} (b : Bool) → (1 ≤ x) × (x ≤ 5) → (1 ≤ y) × (y ≤ 5) → (1 ≤ pick b x y) × (pick b x y ≤ 5)
pick-between true h i = h
pick-between false h i = i

pub texture_between : (clay sand : ℕ) → (1 ≤ texture_of clay sand) × (texture_of clay sand ≤ 5)
unfolding texture_of
texture_between clay sand =
    pick-between (leb 60 clay) (omega arith)
    (pick-between (leb 35 clay) (omega arith)
    (pick-between (ltb sand 15) (omega arith)
    (pick-between (ltb clay 18 && leb 65 sand) (omega arith) (omega arith))))
