-- The walk over a stand: rules 8 to 10 of all entries are those of the rest, given what the entries before it have shown.
use mathlib.Core.Path.{◌≡◌, refl}
use mathlib.Core.Bool.{true, false, ◌&&◌, and-true, and_assoc}
use mathlib.Core.List.{List, [], ◌∷◌}
use Prim.Native.Nat.{ℕ, ◌+◌, ◌≤◌, ◌<◌}
use native.Mathlib.Numerals.{add-one}
use native.Mathlib.Omega.{arith}
use native.Mathlib.Nat.{add-zero, zero-add, add_assoc}
use lib.Dec.{leb, eqb}
use lib.ListN.{length, get_or, drop, drop_of_length-le}
use lib.Seq.{drop-cons}
use Rattle.site.specs.declared.Entry.{Entry}
use Rattle.site.specs.declared.RecordKind.{RecordKind}
use Rattle.site.specs.declared.stands.Seen.{Seen}
use Rattle.site.specs.declared.Rule.TheVariants.{OutOfRange}
use Rattle.site.specs.Refusal.{Checked}
use Rattle.std.specs.Prelude.{Ok, Err}
use Rattle.std.specs.List.{list_all}
use Rattle.site.specs.Bounds.{no_entry}
use Rattle.site.specs.Choice.{pick}
use Rattle.site.specs.Ranges.{share_sum}
use Rattle.site.specs.Values.{entry_ranged, rising_from, shares_of, order_rule, composition_rule, entries_rule}

-- what no entry has shown, and what one more adds
abbrev start : Seen
start = record { rising = true; least = 0; shares = 0 }

abbrev with_entry : Seen → Entry → Seen
with_entry s e = record { rising = s.rising && leb s.least e.species; least = e.species + 1; shares = s.shares + e.share }

-- rules 8 to 10, with es the entries left
unfoldable pub rest_rule : RecordKind → Seen → List Entry → Checked
rest_rule k s es =
    pick (list_all (entry_ranged k) es) (order_rule (s.rising && rising_from s.least es) (eqb (s.shares + shares_of es) share_sum)) (Err OutOfRange)

-- a stand with entries, before the first
pub rest_start : (k : RecordKind) (es : List Entry) → eqb (length es) 0 ≡ false → entries_rule k es ≡ rest_rule k start es
unfolding entries_rule composition_rule rest_rule
rest_start k [] h = cc
rest_start k (e ∷ es) h = rw zero-add

-- a reserve
pub no_entries : (k : RecordKind) (es : List Entry) → length es ≡ 0 → entries_rule k es ≡ Ok tt
unfolding entries_rule composition_rule
no_entries k [] h = refl
no_entries k (e ∷ es) h = absurd (omega arith)

module _ (k : RecordKind) (es : List Entry) (i : ℕ) (s : Seen) where
  pub rest_end : length es ≤ i → rest_rule k s (drop i es) ≡ order_rule s.rising (eqb s.shares share_sum)
  unfolding rest_rule rising_from shares_of
  rest_end h = rw (drop_of_length-le es {i = i} h, and-true, add-zero)

  module _ (h : i < length es) where
    pub rest_next : entry_ranged k (get_or es i no_entry) ≡ true
        → rest_rule k s (drop i es) ≡ rest_rule k (with_entry s (get_or es i no_entry)) (drop (i + 1) es)
    unfolding rest_rule rising_from shares_of
    rest_next e = rw (add-one, drop-cons es i no_entry h, e, and_assoc, add_assoc)

    pub rest_stop : entry_ranged k (get_or es i no_entry) ≡ false → rest_rule k s (drop i es) ≡ Err OutOfRange
    unfolding rest_rule
    rest_stop e = rw (drop-cons es i no_entry h, e)
