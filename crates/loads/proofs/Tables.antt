-- The rules of the constant tables, each by one test that is computed over the whole table.
use Prim.Native.Nat.{ℕ, ◌+◌, ◌*◌, ◌-◌, ◌≤◌, ◌<◌}
use mathlib.Core.Bool.{Bool, true, ◌&&◌, ◌||◌}
use mathlib.Core.Path.{◌≡◌, refl}
use mathlib.Core.Logic.{⊎_elim}
use native.Mathlib.Omega.{arith}
use borrow.Author.Tests.{leb-true, le-leb, lt-leb, ne_eqb}
use lib.Dec.{leb, eqb}
use mathlib.Core.List.{List, []}
use Rattle.numbers.specs.TwoBytes.{AllBytes}
use Rattle.numbers.proofs.PastTheEnd.{word_le}
use Rattle.site.specs.SpeciesList.{place_of}
use lib.ListN.{get_or, get_or-eq_default}
use Rattle.site.proofs.Tests.{le_or_lt, and_l, and_r}
use Rattle.site.proofs.BelowLaws.{all_below, one_below}
use Rattle.loads.specs.Weathering.{class_of}
use Rattle.loads.specs.Nitrogen.{drainage_parts}
use Rattle.loads.specs.Uptake.{species_table, species_row, content, nitrogen_in, base_in}
use Rattle.loads.specs.MostTerms.{most_d}

-- class k is 20 at most, and 1 at least where the parent material is not organic
abbrev class_test : ℕ → ℕ → Bool
class_test p t = leb (class_of p t) 20 && (eqb p 0 || leb 1 (class_of p t))

class_tested : (p t : ℕ) → p ≤ 4 → 1 ≤ t → t ≤ 5 → class_test p t ≡ true
unfolding class_of
class_tested p t h i j =
    let e : t - 1 + 1 ≡ t = omega arith in
    rw (← e) (one_below (λ i. class_test p (i + 1)) 5 (one_below (λ p. all_below (λ i. class_test p (i + 1)) 5) 5 refl p (omega arith)) (t - 1) (omega arith))

pub class_le : (p t : ℕ) → p ≤ 4 → 1 ≤ t → t ≤ 5 → class_of p t ≤ 20
class_le p t h i j = leb-true (class_of p t) 20 (and_l (leb (class_of p t) 20) _ (class_tested p t h i j))

pub class_pos : (p t : ℕ) → p ≤ 4 → (p ≡ 0 → ⊥) → 1 ≤ t → t ≤ 5 → 1 ≤ class_of p t
class_pos p t h n i j =
    let here : eqb p 0 || leb 1 (class_of p t) ≡ true = and_r (leb (class_of p t) 20) _ (class_tested p t h i j) in
    leb-true 1 (class_of p t) (rw (ne_eqb p 0 n) at here)

-- contents have two bytes: those of the table, and those of a list
table_content_le : (x : ℕ) → x ≤ 8 → get_or (get_or species_table x []) 3 0 ≤ 65535
table_content_le x h = leb-true _ _ (one_below (λ x. leb (get_or (get_or species_table x []) 3 0) 65535) 9 refl x (omega arith))

pub nitrogen_content_le : (list : List ℕ) → AllBytes list → (x : ℕ) → nitrogen_in list x ≤ 65535
unfolding nitrogen_in content species_row
nitrogen_content_le list b x =
    ⊎_elim
    (λ (h : x ≤ 8). rw (le-leb x 8 h) (table_content_le x h))
    (λ (h : 8 < x). rw (lt-leb x 8 h) (word_le list (10 * place_of list x + 8) b))
    (le_or_lt x 8)

table_base_le : (x : ℕ) → x ≤ 8 → get_or (get_or species_table x []) 0 0 + get_or (get_or species_table x []) 1 0 + get_or (get_or species_table x []) 2 0 ≤ 196605
table_base_le x h =
    leb-true _ _
    (one_below (λ x. leb (get_or (get_or species_table x []) 0 0 + get_or (get_or species_table x []) 1 0 + get_or (get_or species_table x []) 2 0) 196605) 9 refl x (omega arith))

pub base_content_le : (list : List ℕ) → AllBytes list → (x : ℕ) → base_in list x ≤ 196605
unfolding base_in content species_row
base_content_le list b x =
    ⊎_elim
    (λ (h : x ≤ 8). rw (le-leb x 8 h) (table_base_le x h))
    (λ (h : 8 < x).
    let at = 10 * place_of list x in
    rw (lt-leb x 8 h) (omega (arith, word_le list (at + 2) b, word_le list (at + 4) b, word_le list (at + 6) b)))
    (le_or_lt x 8)

-- past the table: 0
pub drainage_part_none : (d : ℕ) → 5 < d → get_or drainage_parts d 0 ≡ 0
drainage_part_none d h = get_or-eq_default {A = ℕ} drainage_parts 0 {n = d} (omega arith)

pub drainage_part_le : (d : ℕ) → get_or drainage_parts d 0 ≤ most_d
drainage_part_le d =
    ⊎_elim (λ (h : d ≤ 5). leb-true _ _ (one_below (λ d. leb (get_or drainage_parts d 0) most_d) 6 refl d (omega arith)))
    (λ (h : 5 < d). omega (arith, drainage_part_none d h))
    (le_or_lt d 5)
