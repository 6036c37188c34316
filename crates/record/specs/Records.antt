-- A record of a file: an outer field, whose value holds the fields of its kind. For every kind of record.
use Rattle.std.specs.Prelude.{ℕ, ◌+◌, ◌-◌, Bool, List, ltb, eqb, get_or, length, Result, Ok, Err}
use Rattle.site.specs.declared.Rule.TheVariants.{NoBytes, OuterCut, OuterTag, TooMany}
use Rattle.site.specs.declared.Refusal.{Refusal}
use Rattle.site.specs.Refusal.{Checked, unless}
use Rattle.site.specs.Choice.{pick}
use Rattle.record.specs.FieldParts.{stated_len, value_at}
use Rattle.field.specs.Kind.{Kind}
use Rattle.record.specs.Fields.{fields_in}

-- the greatest length of an outer field's value, and of a record with its tag and its length; 258
abbrev pub most_outer : ℕ
most_outer = 255

abbrev pub most_record : ℕ
most_record = 3 + most_outer

-- rules 2, 3 and 2, in this order, at bytes bs where an outer field is due; `known` are the outer tags that may stand there
unfoldable pub outer_rule : (ℕ → Bool) → List ℕ → Checked
outer_rule known bs =
    pick (ltb (length bs) 3) (Err OuterCut)
    (pick (known (get_or bs 0 0))
    (pick (ltb most_outer (stated_len bs)) (Err OuterCut)
    (pick (ltb (length bs - 3) (stated_len bs)) (Err OuterCut) (Ok tt)))
    (Err OuterTag))

-- a value with the offset after it
unfoldable pub ending : {A : Type 0} → ℕ → Result A Refusal → Result (A × ℕ) Refusal
ending end (Ok x) = Ok (x, end)
ending end (Err r) = Err r

-- the record at the front of the bytes bs, which stand at offset `at`, and where the next one starts; its kind is told by its outer tag
unfoldable pub record_in : {A : Type 0} → (ℕ → Bool) → (ℕ → Kind A) → List ℕ → ℕ → Result (A × ℕ) Refusal
record_in known kind bs at = unless (outer_rule known bs) at (ending (at + 3 + stated_len bs) (fields_in (kind (get_or bs 0 0)) (value_at bs) (at + 3)))

-- the record that was found, unless bytes follow it in the file of len bytes
unfoldable pub only_one : {A : Type 0} → ℕ → Result (A × ℕ) Refusal → Result A Refusal
only_one len (Ok x) = pick (eqb x.1 len) (Ok x.0) (Err (record { rule = TooMany; at = x.1 }))
only_one len (Err r) = Err r

-- what a record reader finds in a file of at most one record, of len bytes
unfoldable pub single : {A : Type 0} → (ℕ → Result (A × ℕ) Refusal) → ℕ → Result A Refusal
single read len = pick (eqb len 0) (Err (record { rule = NoBytes; at = 0 })) (only_one len (read 0))
