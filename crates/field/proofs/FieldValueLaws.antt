-- A value is as long as the site says.
use mathlib.Core.Path.{◌≡◌, sym, ap, ◌∙◌}
use mathlib.Core.Bool.{true}
use mathlib.Core.List.{List, map}
use Prim.Native.Nat.{ℕ, ◌*◌, ◌≤◌}
use native.Mathlib.Omega.{arith}
use lib.ListN.{length, take, length-take, length-map}
use Rattle.site.specs.declared.Site.{Site}
use Rattle.site.specs.declared.RecordKind.{RecordKind}
use Rattle.site.specs.Kinds.{entry_width}
use Rattle.std.specs.Prelude.{Ok}
use Rattle.std.specs.List.{list_all}
use Rattle.site.specs.declared.Rule.TheVariants.{OutOfRange}
use Rattle.site.specs.Values.{item_count, count_rule, value_rule, stand_rule, entries_rule, known_rule, entry_ranged}
use Rattle.site.proofs.Passing.{pass_then, both_passed}
use Rattle.site.proofs.LengthLaws.{count_parts}
use Rattle.field.specs.Field.{entries_bytes}
use Rattle.field.specs.Clean.{Sized}
use Rattle.field.proofs.EntryLaws.{length_entries}

module _ (s : Site) (z : Sized s) where
  module _ (c : count_rule 1 s ≡ Ok tt) where
    pub name_counts : (1 ≤ s.name.len) × (s.name.len ≤ 8)
    unfolding item_count
    name_counts = count_parts 1 s c

    pub name_long : length (take s.name.len s.name.bytes) ≡ s.name.len
    name_long = simp length-take (omega (arith, z.name, name_counts))

  module _ (c : count_rule 7 s ≡ Ok tt) where
    pub stand_counts : s.stand.count ≤ 4
    unfolding item_count
    stand_counts = (count_parts 7 s c).1

    pub stand_long : length (take s.stand.count s.stand.entries) ≡ s.stand.count
    stand_long = simp length-take (omega (arith, z.stand, stand_counts))

    pub bytes_long : (k : RecordKind) → length (entries_bytes k (take s.stand.count s.stand.entries)) ≡ entry_width k * s.stand.count
    bytes_long k = length_entries k (take s.stand.count s.stand.entries) ∙ ap (λ (n : ℕ). entry_width k * n) stand_long

-- a stand that passes has entries in their ranges
pub entries_ranged : (list : List ℕ) (k : RecordKind) (s : Site) → value_rule list k 7 s ≡ Ok tt → list_all (entry_ranged k) (take s.stand.count s.stand.entries) ≡ true
unfolding value_rule stand_rule entries_rule
entries_ranged list k s e =
    let es = take s.stand.count s.stand.entries in
    (pass_then (list_all (entry_ranged k) es) OutOfRange _ (both_passed (entries_rule k es) (known_rule list es) e).0).0

-- the length of an array of structs in a struct: what owning the struct tells stands at a `map`
pub unmapped : (X Y : Type 0) (f : X → Y) (l : List X) (n : ℕ) → length (map f l) ≡ n → length l ≡ n
unmapped X Y f l n e = sym (length-map l f) ∙ e
