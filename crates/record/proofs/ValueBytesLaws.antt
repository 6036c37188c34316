-- The bytes that the writer makes: of a tag that has no value, and of a stand, entry by entry.
use mathlib.Core.Path.{◌≡◌, refl, sym}
use mathlib.Core.Bool.{Bool, true, false}
use mathlib.Core.List.{List, [], ◌∷◌, ◌++◌, append_assoc, append-nil}
use mathlib.Core.Logic.{⊎_elim}
use Prim.Native.Nat.{ℕ, ◌+◌, ◌*◌, ◌≤◌, ◌<◌}
use native.Mathlib.Omega.{arith}
use lib.ListN.{length, get_or, take, length-take, get_or-eq_default}
use Rattle.std.proofs.lemmas.List.{take_more}
use Rattle.site.specs.declared.Site.{Site}
use Rattle.site.specs.declared.RecordKind.{RecordKind}
use Rattle.site.specs.declared.Entry.{Entry}
use Rattle.site.specs.Choice.{pick}
use Rattle.site.specs.Kinds.{two_byte_species}
use Rattle.site.proofs.Tests.{le_or_lt}
use Rattle.field.specs.Field.{values, value, entry_bytes, entries_bytes}
use Rattle.field.proofs.EntryLaws.{length_entries}

-- another tag has no bytes
pub no_value : (k : RecordKind) (t : ℕ) (s : Site) → (t < 18 → t ≡ 0) → value k t s ≡ []
unfolding value
no_value k t s h =
    ⊎_elim
    (λ (past : 18 ≤ t). get_or-eq_default (values k s) [] {n = t} past)
    (λ (below : t < 18). rw (h below))
    (le_or_lt 18 t)

module _ (k : RecordKind) where
  entries_join : (es fs : List Entry) → entries_bytes k (es ++ fs) ≡ entries_bytes k es ++ entries_bytes k fs
  unfolding entries_bytes
  entries_join [] fs = refl
  entries_join (e ∷ es) fs = rw (entries_join es fs) (sym (append_assoc (entry_bytes k e) (entries_bytes k es) (entries_bytes k fs)))

  -- one entry more
  pub entries_more : (es : List Entry) (i : ℕ) (d : Entry) → i < length es → entries_bytes k (take (i + 1) es) ≡ entries_bytes k (take i es) ++ entry_bytes k (get_or es i d)
  unfolding entries_bytes
  entries_more es i d h = rw (take_more es i d h, entries_join (take i es) (get_or es i d ∷ []), append-nil)

  -- and there is room for another: four entries have at most 20 bytes
  pub entries_room : (es : List Entry) (i : ℕ) → i < length es → length es ≤ 4 → length (entries_bytes k (take i es)) ≤ 15
  entries_room es i h few = rw (length_entries k (take i es)) (by_width (two_byte_species k))
    where
      by_width : (wide : Bool) → pick wide 5 4 * length (take i es) ≤ 15
      by_width true = simp length-take (omega arith)
      by_width false = simp length-take (omega arith)
