-- The laws that a kind of record has by tag, from which its round trips follow; and how they hold for fields of bytes and words.
use mathlib.Core.Path.{◌≡◌, refl, sym, ap, ◌∙◌}
use mathlib.Core.Bool.{true}
use mathlib.Core.List.{List, [], ◌∷◌, ◌++◌}
use Prim.Native.Nat.{ℕ}
use lib.ListN.{length, get_or}
use Rattle.site.specs.declared.Rule.TheVariants.{BadLength}
use Rattle.site.proofs.Passing.{pass_then}
use Rattle.site.specs.Refusal.{Checked}
use Rattle.std.specs.Prelude.{Ok}
use Rattle.numbers.specs.TwoBytes.{word_at, word_bytes, AllBytes}
use Rattle.site.specs.Bytes.{tabulate}
use Rattle.field.specs.Kind.{Kind, field_rule}
use Rattle.field.proofs.TabulateLaws.{tabulate-get_or}
use Rattle.field.proofs.EntryLaws.{word_back, word_hi, word_lo}

-- ---- what was stored is written

module _ (v : List ℕ) where
  byte_kept : length v ≡ 1 → get_or v 0 0 ∷ [] ≡ v
  unfolding tabulate
  byte_kept l = rw l at (tabulate-get_or v 0)

  bytes_kept : length v ≡ 2 → get_or v 0 0 ∷ get_or v 1 0 ∷ [] ≡ v
  unfolding tabulate
  bytes_kept l = rw l at (tabulate-get_or v 0)

  word_kept : length v ≡ 2 → AllBytes v → word_bytes (word_at v 0) ≡ v
  word_kept l b = rw (word_hi v 0 b, word_lo v 0 b) (bytes_kept l)

  words_kept : length v ≡ 4 → AllBytes v → word_bytes (word_at v 0) ++ word_bytes (word_at v 2) ≡ v
  unfolding tabulate
  words_kept l b = rw (word_hi v 0 b, word_lo v 0 b, word_hi v 2 b, word_lo v 2 b) (rw l at (tabulate-get_or v 0))

-- ---- the laws by tag

module _ {A : Type 0} (K : Kind A) where
  -- what a field that passed says
  pub parts_passed : (t : ℕ) (v : List ℕ) (x : A) → field_rule K t v x ≡ Ok tt → (K.permitted t (length v) ≡ true) × (K.rule t (K.store t v x) ≡ Ok tt)
  unfolding field_rule
  parts_passed t v x e = pass_then (K.permitted t (length v)) BadLength (K.rule t (K.store t v x)) e

  -- what the field t makes of a value, and other fields leave
  pub record Made (P : A → Type 0) (t : ℕ) : Type 0 where
    pub own : (v : List ℕ) (x : A) → field_rule K t v x ≡ Ok tt → P (K.store t v x)
    pub other : (u : ℕ) (v : List ℕ) (x : A) → (u ≡ t → ⊥) → P x → P (K.store u v x)

  -- the field t is written as it was stored, and other fields leave it
  pub record Kept (t : ℕ) : Type 0 where
    pub own : (v : List ℕ) (x : A) → field_rule K t v x ≡ Ok tt → AllBytes v → K.bytes t (K.store t v x) ≡ v
    pub other : (u : ℕ) (v : List ℕ) (x : A) → (u ≡ t → ⊥) → K.bytes t (K.store u v x) ≡ K.bytes t x

  -- ---- the field t holds a part of the value: how it is made from bytes, its own bytes, and its rules 8 to 10 and 16

  abbrev pub Computes : ℕ → (B : Type 0) → (A → B) → (List ℕ → B) → (B → List ℕ) → (B → Checked) → Type 0
  Computes t B part make bytes check =
      (x : A) (v : List ℕ) → (K.bytes t x ≡ bytes (part x)) × (K.rule t x ≡ check (part x)) × (part (K.store t v x) ≡ make v)

  -- other fields leave it
  abbrev pub Leaves : ℕ → (B : Type 0) → (A → B) → Type 0
  Leaves t B part = (u : ℕ) (v : List ℕ) (x : A) → (u ≡ t → ⊥) → part (K.store u v x) ≡ part x

  -- one item of w bytes
  abbrev pub OneLength : ℕ → ℕ → Type 0
  OneLength t w = ((n : ℕ) → K.permitted t n ≡ true → n ≡ w) × (K.permitted t w ≡ true)

  pub record OneItem (t : ℕ) : Type 0 where
    pub kept : Kept t
    pub rule : (u : ℕ) (v : List ℕ) (x : A) → (u ≡ t → ⊥) → K.rule t x ≡ Ok tt → K.rule t (K.store u v x) ≡ Ok tt
    pub again : (s : A) → K.rule t s ≡ Ok tt → (x : A) → field_rule K t (K.bytes t s) x ≡ Ok tt

  module _ (t w : ℕ) (one : OneLength t w) (B : Type 0) (part : A → B) (make : List ℕ → B) (bytes : B → List ℕ) (check : B → Checked)
      (is : Computes t B part make bytes check) (other : Leaves t B part)
      (long : (b : B) → length (bytes b) ≡ w) (same : (b : B) → make (bytes b) ≡ b) (back : (v : List ℕ) → length v ≡ w → AllBytes v → bytes (make v) ≡ v) where
    again : (s : A) → K.rule t s ≡ Ok tt → (x : A) → field_rule K t (K.bytes t s) x ≡ Ok tt
    unfolding field_rule
    again s e x =
        let v = bytes (part s) in
        rw ((is s []).0, long (part s), one.1) ((is (K.store t v x) []).1 ∙ ap check ((is x v).2 ∙ same (part s)) ∙ sym (is s []).1 ∙ e)

    pub item : OneItem t
    item = record {
      kept = record {
        own = λ v x p b. (is (K.store t v x) []).0 ∙ ap bytes (is x v).2 ∙ back v (one.0 (length v) (parts_passed t v x p).0) b;
        other = λ u v x h. (is (K.store u v x) []).0 ∙ ap bytes (other u v x h) ∙ sym (is x []).0;
      };
      rule = λ u v x h e. (is (K.store u v x) []).1 ∙ ap check (other u v x h) ∙ sym (is x []).1 ∙ e;
      again = again;
    }

  pub byte_item : (t : ℕ) (part : A → ℕ) (check : ℕ → Checked) → OneLength t 1
      → Computes t ℕ part (λ v. get_or v 0 0) (λ b. b ∷ []) check → Leaves t ℕ part → OneItem t
  byte_item t part check one is other =
      item t 1 one ℕ part (λ v. get_or v 0 0) (λ b. b ∷ []) check is other (λ b. refl) (λ b. refl) (λ v l b. byte_kept v l)

  pub word_item : (t : ℕ) (part : A → ℕ) (check : ℕ → Checked) → OneLength t 2
      → Computes t ℕ part (λ v. word_at v 0) word_bytes check → Leaves t ℕ part → OneItem t
  word_item t part check one is other = item t 2 one ℕ part (λ v. word_at v 0) word_bytes check is other (λ b. refl) word_back word_kept

  pub pair_item : (t : ℕ) (part : A → ℕ × ℕ) (check : ℕ × ℕ → Checked) → OneLength t 2
      → Computes t (ℕ × ℕ) part (λ v. (get_or v 0 0, get_or v 1 0)) (λ b. b.0 ∷ b.1 ∷ []) check → Leaves t (ℕ × ℕ) part → OneItem t
  pair_item t part check one is other =
      item t 2 one (ℕ × ℕ) part (λ v. (get_or v 0 0, get_or v 1 0)) (λ b. b.0 ∷ b.1 ∷ []) check is other (λ b. refl) (λ b. refl) (λ v l b. bytes_kept v l)

  pub words_item : (t : ℕ) (part : A → ℕ × ℕ) (check : ℕ × ℕ → Checked) → OneLength t 4
      → Computes t (ℕ × ℕ) part (λ v. (word_at v 0, word_at v 2)) (λ b. word_bytes b.0 ++ word_bytes b.1) check → Leaves t (ℕ × ℕ) part → OneItem t
  words_item t part check one is other =
      item t 4 one (ℕ × ℕ) part (λ v. (word_at v 0, word_at v 2)) (λ b. word_bytes b.0 ++ word_bytes b.1) check is other
      (λ b. refl) (λ b. rw (word_back b.0, word_back b.1)) words_kept
