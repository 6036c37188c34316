-- The rules 7 to 10 and 16 of a site value with the list that is lent, by the tags of its kind in order. The whole check has rule 21 after them: `site_rule` in the crate `loads`.
use Rattle.std.specs.Prelude.{ℕ, ◌<◌, ◌≡◌, List, [], ◌∷◌, ◌++◌, length, get_or, Ok, Err}
use Rattle.site.specs.declared.Site.{Site}
use Rattle.site.specs.declared.RecordKind.{RecordKind}
use Rattle.site.specs.declared.Rule.{Rule}
use Rattle.site.specs.Refusal.{Checked, and_then}
use Rattle.site.specs.Kinds.{due, due_from}
use Rattle.site.specs.Values.{count_rule, value_rule}

-- the first rule broken in the fields of kind k with tags ts
unfoldable pub fields_rule : List ℕ → RecordKind → List ℕ → Site → Checked
fields_rule list k [] s = Ok tt
fields_rule list k (t ∷ ts) s = and_then (and_then (count_rule t s) (value_rule list k t s)) (fields_rule list k ts s)

unfoldable pub due_rule : List ℕ → Site → Checked
due_rule list s = fields_rule list s.kind (due s.kind) s

-- the fields of its kind from tag t on
abbrev pub rest_rule : List ℕ → (t : ℕ) → Site → Checked
rest_rule list t s = fields_rule list s.kind (due_from s.kind t) s

-- the first field with a broken rule: each one before it passes, and its own first broken rule is r
pub record FirstBroken (list : List ℕ) (k : RecordKind) (ts : List ℕ) (s : Site) (r : Rule) : Type 0 where
  pub before : List ℕ
  pub tag : ℕ
  pub later : List ℕ
  pub order : ts ≡ before ++ tag ∷ later
  pub passed : (i : ℕ) → i < length before → (count_rule (get_or before i 0) s ≡ Ok tt) × (value_rule list k (get_or before i 0) s ≡ Ok tt)
  pub broken : and_then (count_rule tag s) (value_rule list k tag s) ≡ Err r
