-- The fields of a record, read from the left and written: for every kind of record.
use Rattle.std.specs.Prelude.{ℕ, ◌+◌, ◌-◌, List, [], ◌∷◌, ◌++◌, ltb, eqb, get_or, length, Result, Ok, Err}
use Rattle.site.specs.declared.Rule.TheVariants.{InnerCut, InnerTag}
use Rattle.site.specs.declared.Refusal.{Refusal}
use Rattle.site.specs.Refusal.{Checked, unless}
use Rattle.site.specs.Choice.{pick}
use Rattle.field.specs.Kind.{Kind, field_rule}
use Rattle.record.specs.FieldParts.{field_of, stated_len, value_at, rest_at}

-- rules 6, 5, 6 and 5, in this order, at bytes bs where the field t is due
unfoldable pub head_rule : ℕ → List ℕ → Checked
head_rule t bs =
    pick (eqb (length bs) 0) (Err InnerTag)
    (pick (ltb (length bs) 3) (Err InnerCut)
    (pick (eqb (get_or bs 0 0) t)
    (pick (ltb (length bs - 3) (stated_len bs)) (Err InnerCut) (Ok tt))
    (Err InnerTag)))

-- ts: the tags still due; x: the value so far; bs: the bytes left, and their offset
unfoldable pub walk_fields : {A : Type 0} → Kind A → List ℕ → A → List ℕ → ℕ → Result A Refusal
walk_fields K [] x bs at = pick (eqb (length bs) 0) (Ok x) (Err (record { rule = InnerTag; at = at }))
walk_fields K (t ∷ ts) x bs at =
    unless (head_rule t bs) at
    (unless (field_rule K t (value_at bs) x) at
    (walk_fields K ts (K.store t (value_at bs) x) (rest_at bs) (at + (3 + stated_len bs))))

-- all fields of a record
abbrev pub fields_in : {A : Type 0} → Kind A → List ℕ → ℕ → Result A Refusal
fields_in K bs at = walk_fields K K.due K.blank bs at

unfoldable pub encode_fields : {A : Type 0} → Kind A → List ℕ → A → List ℕ
encode_fields K [] x = []
encode_fields K (t ∷ ts) x = field_of t (K.bytes t x) ++ encode_fields K ts x

-- the record: an outer field
unfoldable pub encode_as : {A : Type 0} → Kind A → A → List ℕ
encode_as K x = field_of K.tag (encode_fields K K.due x)
