-- The stand of a reserve breaks no rule, in any kind, with any list, and whatever stands past its entries: 7 permits it, 8 and 16 find no entry, 9 and 10 don't apply.
use mathlib.Core.Path.{◌≡◌, refl}
use mathlib.Core.List.{List}
use Prim.Native.Nat.{ℕ}
use native.Mathlib.Omega.{arith}
use Rattle.std.specs.Prelude.{Ok}
use Rattle.site.specs.declared.Site.{Site}
use Rattle.site.specs.Reserve.{Reserve}
use Rattle.site.specs.Refusal.{and_then}
use Rattle.site.specs.Values.{item_count, count_rule, composition_rule, entries_rule, known_rule, stand_rule, value_rule}
use Rattle.site.proofs.LengthLaws.{parts_counted}

pub reserve_stand : (list : List ℕ) (s : Site) → Reserve s → (count_rule 7 s ≡ Ok tt) × (value_rule list s.kind 7 s ≡ Ok tt)
unfolding item_count value_rule stand_rule entries_rule composition_rule known_rule and_then
reserve_stand list s r = (parts_counted 7 s (omega arith) (omega arith), rw r refl)
