-- The first fault from the left: all that stands before it is accepted.
use Rattle.std.specs.Prelude.{ℕ, ◌+◌, ◌-◌, ◌<◌, Bool, ◌≡◌, ◌⊎◌, List, [], ◌∷◌, ◌++◌, length, get_or, Result, Ok, Err}
use Rattle.site.specs.Refusal.{and_then}
use Rattle.site.specs.declared.Refusal.{Refusal}
use Rattle.site.specs.declared.Rule.{Rule}
use Rattle.site.specs.declared.Rule.TheVariants.{NoBytes, InnerTag, TooMany}
use Rattle.field.specs.Kind.{Kind, field_rule}
use Rattle.record.specs.FieldParts.{stated_len, value_at, rest_at}
use Rattle.record.specs.Fields.{head_rule}
use Rattle.site.specs.declared.Site.{Site}
use Rattle.site.specs.declared.RecordKind.{RecordKind}
use Rattle.site.specs.declared.RecordKind.TheVariants.{Tag55}
use Rattle.loads.specs.SiteTerms.{terms_of}
use Rattle.loads.specs.MaxS.{load_rule}
use Rattle.record.specs.Records.{outer_rule}
use Rattle.record.specs.Outer.{fields_at, dioxide_length}

-- the fields ts, each accepted, lead from the value x and the bytes bs at an offset to the value y and the bytes cs at another
pub data FieldsAccepted {A : Type 0} (K : Kind A) : A → List ℕ → ℕ → List ℕ → A → List ℕ → ℕ → Type 0 where
  none : {x : A} {bs : List ℕ} {at : ℕ} → FieldsAccepted K x bs at [] x bs at
  next : {x y : A} {bs cs ts : List ℕ} {at end : ℕ} (t : ℕ)
      → head_rule t bs ≡ Ok tt → field_rule K t (value_at bs) x ≡ Ok tt
      → FieldsAccepted K (K.store t (value_at bs) x) (rest_at bs) (at + (3 + stated_len bs)) ts y cs end
      → FieldsAccepted K x bs at (t ∷ ts) y cs end

-- of the tags ts those `before` are read, and the field that is due next breaks the rule, by 6, 5, 6, 5, 7 to 10, 16
pub record DueBroken {A : Type 0} (K : Kind A) (ts before : List ℕ) (x : A) (bs : List ℕ) (rule : Rule) : Type 0 where
  pub tag : ℕ
  pub later : List ℕ
  pub due : ts ≡ before ++ tag ∷ later
  pub broken : and_then (head_rule tag bs) (field_rule K tag (value_at bs) x) ≡ Err rule

-- all of them are read, and a byte is left
pub record BytesLeft (ts before bs : List ℕ) (rule : Rule) : Type 0 where
  pub due : ts ≡ before
  pub left : 0 < length bs
  pub broken : rule ≡ InnerTag

-- where the tags ts are due from the value x on, in the bytes bs that start at an offset: the first fault is r
pub record FirstField {A : Type 0} (K : Kind A) (ts : List ℕ) (x : A) (bs : List ℕ) (start : ℕ) (r : Refusal) : Type 0 where
  pub before : List ℕ
  pub value : A
  pub rest : List ℕ
  pub accepted : FieldsAccepted K x bs start before value rest r.at
  pub here : DueBroken K ts before value rest r.rule ⊎ BytesLeft ts before rest r.rule

-- the record at the front of bs: its outer field breaks the rule, at its first byte
pub record OuterBroken (known : ℕ → Bool) (bs : List ℕ) (start : ℕ) (r : Refusal) : Type 0 where
  pub broken : outer_rule known bs ≡ Err r.rule
  pub offset : r.at ≡ start

-- its outer field passes, and a field inside it breaks the rule
pub record InnerBroken {A : Type 0} (known : ℕ → Bool) (K : Kind A) (bs : List ℕ) (start : ℕ) (r : Refusal) : Type 0 where
  pub outer : outer_rule known bs ≡ Ok tt
  pub inner : FirstField K K.due K.blank (value_at bs) (start + 3) r

-- its fields are all accepted, none but those of its kind, and lead from `start` to `next`; but rule 21 is broken, at the first byte of field 11, which ends it
pub record LoadBroken (newest : RecordKind) (list f : List ℕ) (start : ℕ) (r : Refusal) : Type 0 where
  pub site : Site
  pub next : ℕ
  pub accepted : fields_at newest list f start ≡ Ok (site, next)
  pub broken : load_rule (terms_of list site) ≡ Err r.rule
  pub offset : r.at ≡ next - dioxide_length

-- such a record is of kind 55, and at the offset stands the tag 11
pub record LostAtField (f : List ℕ) (s : Site) (at : ℕ) : Type 0 where
  pub kind : s.kind ≡ Tag55
  pub tag : get_or f at 0 ≡ 17

-- the records xs, each accepted, lead from one offset to another
pub data RecordsAccepted {A : Type 0} (read : ℕ → Result (A × ℕ) Refusal) : ℕ → List A → ℕ → Type 0 where
  none : {at : ℕ} → RecordsAccepted read at [] at
  next : {at end : ℕ} {xs : List A} (x : A × ℕ) → read at ≡ Ok x → RecordsAccepted read x.1 xs end → RecordsAccepted read at (x.0 ∷ xs) end

-- fewer than `most` records come before, and the record at `start` has the fault
pub record RecordBroken {A : Type 0} (read : ℕ → Result (A × ℕ) Refusal) (most : ℕ) (before : List A) (start : ℕ) (r : Refusal) : Type 0 where
  pub few : length before < most
  pub broken : read start ≡ Err r

-- `most` records come before, and a byte is left: 4 at that byte
pub record OneTooMany {A : Type 0} (most : ℕ) (before : List A) (start : ℕ) (r : Refusal) : Type 0 where
  pub many : length before ≡ most
  pub broken : r.rule ≡ TooMany
  pub offset : r.at ≡ start

-- in a file of len bytes, from an offset on where `most` records may come, the first fault is r
pub record FirstFault {A : Type 0} (read : ℕ → Result (A × ℕ) Refusal) (len most from : ℕ) (r : Refusal) : Type 0 where
  pub before : List A
  pub start : ℕ
  pub accepted : RecordsAccepted read from before start
  pub left : start < len
  pub here : RecordBroken read most before start r ⊎ OneTooMany most before start r

-- a file of no bytes: 1 at 0
pub record Empty (len : ℕ) (r : Refusal) : Type 0 where
  pub nothing : len ≡ 0
  pub broken : r.rule ≡ NoBytes
  pub offset : r.at ≡ 0

-- the first fault, r, of a file of len bytes that may hold 1 to `most` records
abbrev pub FileFault : {A : Type 0} → (ℕ → Result (A × ℕ) Refusal) → (len most : ℕ) → (r : Refusal) → Type 0
FileFault read len most r = Empty len r ⊎ FirstFault read len most 0 r
