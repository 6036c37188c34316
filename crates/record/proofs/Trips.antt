-- Both round trips of a record's fields, for every kind: from a law by tag, and a law that other fields stay.
use mathlib.Core.Path.{◌≡◌, refl, sym, subst, ◌∙◌}
use mathlib.Core.Bool.{Bool, true, ◌&&◌}
use mathlib.Core.List.{List, [], ◌∷◌}
use Prim.Native.Nat.{ℕ, ◌≤◌}
use native.Mathlib.Omega.{arith}
use lib.Dec.{ltb}
use borrow.Author.Tests.{ltb-true}
use Rattle.std.specs.Prelude.{Ok}
use Rattle.site.proofs.Tests.{and_l, and_r}
use Rattle.site.specs.Refusal.{unless}
use Rattle.record.specs.FieldParts.{value_at, rest_at}
use Rattle.record.specs.Fields.{walk_fields, encode_fields}
use Rattle.numbers.specs.TwoBytes.{AllBytes}
use Rattle.field.specs.Kind.{Kind, field_rule}
use Rattle.field.proofs.KindLaws.{Made, Kept}
use Rattle.field.proofs.All.{All, none, ◌▸◌}
use Rattle.field.proofs.EntryLaws.{no_length}
use Rattle.record.proofs.FieldBytes.{field_value, field_rest, field_whole, value_bytes, rest_bytes}
use Rattle.record.proofs.WalkLaws.{head_field, walk_none, walk_some}

-- tags that rise, all above lo
abbrev pub rises : ℕ → List ℕ → Bool
rises lo [] = true
rises lo (t ∷ ts) = ltb lo t && rises t ts

module _ {A : Type 0} (K : Kind A) where
  -- ---- what the fields leave stays

  pub through : (P : A → Type 0) (ts : List ℕ) → All (λ u. (v : List ℕ) (x : A) → P x → P (K.store u v x)) ts
      → (x s : A) (bs : List ℕ) (at : ℕ) → walk_fields K ts x bs at ≡ Ok s → P x → P s
  through P [] none x s bs at e p = subst P (walk_none K x s bs at e).0 p
  through P (u ∷ ts) (keep ▸ more) x s bs at e p =
      let q = walk_some K u ts x s bs at e in
      through P ts more _ s _ _ q.more (keep _ x p)

  -- those of later tags
  later : (P : A → Type 0) (t : ℕ) → ((u : ℕ) (v : List ℕ) (x : A) → (u ≡ t → ⊥) → P x → P (K.store u v x))
      → (ts : List ℕ) (lo : ℕ) → t ≤ lo → rises lo ts ≡ true → All (λ u. (v : List ℕ) (x : A) → P x → P (K.store u v x)) ts
  later P t other [] lo h r = none
  later P t other (u ∷ ts) lo h r =
      let l = ltb-true lo u (and_l (ltb lo u) (rises u ts) r) in
      (λ v x. other u v x (λ i. omega arith)) ▸ later P t other ts u (omega arith) (and_r (ltb lo u) (rises u ts) r)

  pub stays : (P : A → Type 0) (t : ℕ) → ((u : ℕ) (v : List ℕ) (x : A) → (u ≡ t → ⊥) → P x → P (K.store u v x))
      → (ts : List ℕ) (lo : ℕ) → t ≤ lo → rises lo ts ≡ true → (x s : A) (bs : List ℕ) (at : ℕ) → walk_fields K ts x bs at ≡ Ok s → P x → P s
  stays P t other ts lo h r = through P ts (later P t other ts lo h r)

  pub every : (P : ℕ → A → Type 0) (ts : List ℕ) (lo : ℕ) → rises lo ts ≡ true → All (λ t. Made K (P t) t) ts
      → (x s : A) (bs : List ℕ) (at : ℕ) → walk_fields K ts x bs at ≡ Ok s → All (λ t. P t s) ts
  every P [] lo r none x s bs at e = none
  every P (t ∷ ts) lo r (m ▸ ms) x s bs at e =
      let q = walk_some K t ts x s bs at e in
      let more = and_r (ltb lo t) (rises t ts) r in
      stays (P t) t m.other ts t (omega arith) more _ s _ _ q.more (m.own (value_at bs) x q.passed)
      ▸ every P ts t more ms _ s _ _ q.more

  -- ---- an accepted record is written again byte for byte

  pub written_again_lem : (ts : List ℕ) (lo : ℕ) → rises lo ts ≡ true → All (Kept K) ts
      → (x s : A) (bs : List ℕ) (at : ℕ) → AllBytes bs → walk_fields K ts x bs at ≡ Ok s → encode_fields K ts s ≡ bs
  unfolding encode_fields
  written_again_lem [] lo r none x s bs at b e = sym (no_length bs (walk_none K x s bs at e).1)
  written_again_lem (t ∷ ts) lo r (k ▸ ks) x s bs at b e =
      let q = walk_some K t ts x s bs at e in
      let more = and_r (ltb lo t) (rises t ts) r in
      let v = value_at bs in
      let same : K.bytes t s ≡ v =
      stays (λ (y : A). K.bytes t y ≡ v) t (λ u w y h i. k.other u w y h ∙ i) ts t (omega arith) more _ s _ _ q.more
      (k.own v x q.passed (value_bytes bs b)) in
      rw (same, written_again_lem ts t more ks _ s (rest_at bs) _ (rest_bytes bs b) q.more) (field_whole t bs b q.head.tag q.head.inside)

  -- ---- what is written is read

  -- the fields of s put into x
  unfoldable pub store_all : List ℕ → A → A → A
  store_all [] s x = x
  store_all (t ∷ ts) s x = store_all ts s (K.store t (K.bytes t s) x)

  pub read_again : (ts : List ℕ) (s x : A) (at : ℕ) → All (λ t. (y : A) → field_rule K t (K.bytes t s) y ≡ Ok tt) ts
      → walk_fields K ts x (encode_fields K ts s) at ≡ Ok (store_all ts s x)
  unfolding walk_fields unless encode_fields store_all
  read_again [] s x at none = refl
  read_again (t ∷ ts) s x at (g ▸ gs) =
      let v = K.bytes t s in
      let rest = encode_fields K ts s in
      rw (head_field t v rest, field_value t v rest, g x, field_rest t v rest) (read_again ts s (K.store t v x) _ gs)
