-- What is special to a kind of record, whose values are of type A; and the rules of one field.
use Rattle.std.specs.Prelude.{ℕ, Bool, List, length, Err}
use Rattle.site.specs.declared.Rule.TheVariants.{BadLength}
use Rattle.site.specs.Refusal.{Checked}
use Rattle.site.specs.Choice.{pick}

pub record Kind (A : Type 0) : Type 0 where
  -- the outer tag, and the tags of the fields in their order
  pub tag : ℕ
  pub due : List ℕ
  -- the value before the first field is read
  pub blank : A
  -- by tag: which numbers of bytes are permitted (rule 7); the value with the field of these bytes; what its rules 8 to 10 and 16 say
  pub permitted : ℕ → ℕ → Bool
  pub store : ℕ → List ℕ → A → A
  pub rule : ℕ → A → Checked
  -- by tag: the bytes that are written
  pub bytes : ℕ → A → List ℕ

-- rules 7 to 10 and 16 of the field with tag t and value v, taken into x
unfoldable pub field_rule : {A : Type 0} → Kind A → ℕ → List ℕ → A → Checked
field_rule K t v x = pick (K.permitted t (length v)) (K.rule t (K.store t v x)) (Err BadLength)
