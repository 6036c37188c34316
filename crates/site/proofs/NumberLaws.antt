-- The check of a site value, or of a field of it, gives no other rule than 7 to 10 and 16: a test of the rule, which holds of every branch.
use mathlib.Core.Path.{◌≡◌, refl}
use mathlib.Core.Bool.{Bool, true, false, ◌&&◌, ◌||◌, false≢true}
use mathlib.Core.List.{List, [], ◌∷◌}
use Prim.Native.Nat.{ℕ}
use lib.Dec.{leb, eqb}
use Rattle.site.specs.declared.Site.{Site}
use Rattle.site.specs.declared.Entry.{Entry}
use Rattle.site.specs.declared.RecordKind.{RecordKind}
use Rattle.site.specs.declared.Rule.TheVariants.{NoBytes, OuterCut, OuterTag, TooMany, InnerCut, InnerTag, BadLength, OutOfRange, NotRising, SharesNotWhole, BufferShort, BadConcentration, NoReading, PairTooLarge, BadList, NotListed, NotConvertible, LoadBelowZero}
use Rattle.site.specs.Refusal.{Checked, rule_number, checked_number, Numbered, passes, bad_length, out_of_range, not_rising, shares_not_whole, not_listed, and_then}
use Rattle.std.specs.Prelude.{Ok, Err}
use Rattle.std.specs.List.{list_all}
use Rattle.site.specs.Choice.{pick}
use Rattle.site.specs.declared.ranges.Range.{Range}
use Rattle.site.specs.Ranges.{share_sum}
use Rattle.site.specs.Values.{items_of, item_count, count_rule, ranged, inside, between, entry_ranged, rising_from, shares_of, order_rule, composition_rule, entries_rule, species_known, known_rule, stand_rule, value_rules, value_rule}
use Rattle.site.specs.Check.{fields_rule, due_rule}
use Rattle.site.proofs.PartLaws.{all_get_d}

-- no rule, or one of 7 to 10 and 16
unfoldable pub known : Checked → Bool
known (Ok tt) = true
known (Err r) = leb 7 (rule_number r) && leb (rule_number r) 10 || eqb (rule_number r) 16

number_of : (c : Checked) → known c ≡ true → Numbered c (checked_number c)
unfolding known checked_number
number_of (Ok tt) e = passes
number_of (Err NoBytes) e = absurd (false≢true e)
number_of (Err OuterCut) e = absurd (false≢true e)
number_of (Err OuterTag) e = absurd (false≢true e)
number_of (Err TooMany) e = absurd (false≢true e)
number_of (Err InnerCut) e = absurd (false≢true e)
number_of (Err InnerTag) e = absurd (false≢true e)
number_of (Err BadLength) e = bad_length
number_of (Err OutOfRange) e = out_of_range
number_of (Err NotRising) e = not_rising
number_of (Err SharesNotWhole) e = shares_not_whole
number_of (Err BufferShort) e = absurd (false≢true e)
number_of (Err BadConcentration) e = absurd (false≢true e)
number_of (Err NoReading) e = absurd (false≢true e)
number_of (Err PairTooLarge) e = absurd (false≢true e)
number_of (Err BadList) e = absurd (false≢true e)
number_of (Err NotListed) e = not_listed
number_of (Err NotConvertible) e = absurd (false≢true e)
number_of (Err LoadBelowZero) e = absurd (false≢true e)

pub numbered : (a b : Checked) → a ≡ b → known b ≡ true → Numbered b (checked_number a)
numbered a b e k = rw e (number_of b k)

pub known_pick : (t : Bool) (a b : Checked) → known a ≡ true → known b ≡ true → known (pick t a b) ≡ true
known_pick true a b p q = p
known_pick false a b p q = q

known_then : (a b : Checked) → known a ≡ true → known b ≡ true → known (and_then a b) ≡ true
unfolding and_then
known_then (Ok tt) b p q = q
known_then (Err r) b p q = p

known_passed : known (Ok tt) ≡ true
unfolding known
known_passed = refl

known_ranged : (t : Bool) → known (ranged t) ≡ true
unfolding known
known_ranged t = known_pick t (Ok tt) (Err OutOfRange) refl refl

known_between : (r : Range) (x : ℕ) → known (between r x) ≡ true
unfolding between
known_between r x = known_ranged (inside r x)

known_order : (rising whole : Bool) → known (order_rule rising whole) ≡ true
unfolding known
known_order true true = refl
known_order true false = refl
known_order false true = refl
known_order false false = refl

known_composition : (es : List Entry) → known (composition_rule es) ≡ true
unfolding composition_rule
known_composition [] = known_passed
known_composition (e ∷ es) = known_order (rising_from 0 (e ∷ es)) (eqb (shares_of (e ∷ es)) share_sum)

known_entries : (k : RecordKind) (es : List Entry) → known (entries_rule k es) ≡ true
unfolding entries_rule known
known_entries k es = known_pick (list_all (entry_ranged k) es) (composition_rule es) (Err OutOfRange) (known_composition es) refl

known_stand : (list : List ℕ) (k : RecordKind) (es : List Entry) → known (stand_rule list k es) ≡ true
unfolding stand_rule known_rule known
known_stand list k es =
    known_then (entries_rule k es) (known_rule list es) (known_entries k es) (known_pick (list_all (species_known list) es) (Ok tt) (Err NotListed) refl refl)

known_count : (t : ℕ) (s : Site) → known (count_rule t s) ≡ true
unfolding count_rule known
known_count t s = known_pick (leb (items_of s.kind t).least (item_count t s) && leb (item_count t s) (items_of s.kind t).most) (Ok tt) (Err BadLength) refl refl

pub known_value : (list : List ℕ) (k : RecordKind) (t : ℕ) (s : Site) → known (value_rule list k t s) ≡ true
unfolding value_rule
known_value list k t s = all_get_d known (value_rules list k s) t (Ok tt) known_passed (simp (known_passed, known_ranged, known_between, known_stand))

known_fields : (list : List ℕ) (k : RecordKind) (ts : List ℕ) (s : Site) → known (fields_rule list k ts s) ≡ true
unfolding fields_rule
known_fields list k [] s = known_passed
known_fields list k (t ∷ ts) s = known_then _ _ (known_then _ _ (known_count t s) (known_value list k t s)) (known_fields list k ts s)

pub known_site : (list : List ℕ) (s : Site) → known (due_rule list s) ≡ true
unfolding due_rule
known_site list s = known_fields list s.kind _ s
