-- A name and an entry in bytes; past the end stand zeros.
use Rattle.std.specs.Prelude.{ℕ, zero, suc, ◌+◌, List, [], ◌∷◌, get_or}
use Rattle.numbers.specs.TwoBytes.{word_at}
use Rattle.site.specs.Choice.{pick}
use Rattle.site.specs.declared.Entry.{Entry}
use Rattle.site.specs.declared.RecordKind.{RecordKind}
use Rattle.site.specs.Kinds.{two_byte_species}
use Rattle.site.specs.Ranges.{most_name}

-- n elements, of which number i is f i
unfoldable pub tabulate {ℓ} : {A : Type ℓ} → ℕ → (ℕ → A) → List A
tabulate zero f = []
tabulate (suc n) f = f 0 ∷ tabulate n (λ i. f (suc i))

-- the bytes of a name
abbrev pub name_in : List ℕ → List ℕ
name_in bs = tabulate most_name (λ i. get_or bs i 0)

-- the entry whose bytes start at place i, with a species number of one byte or of two
abbrev pub narrow_entry : List ℕ → ℕ → Entry
narrow_entry bs i = record { species = get_or bs i 0; share = get_or bs (i + 1) 0; yield_kg = word_at bs (i + 2) }

abbrev pub wide_entry : List ℕ → ℕ → Entry
wide_entry bs i = record { species = word_at bs i; share = get_or bs (i + 2) 0; yield_kg = word_at bs (i + 3) }

unfoldable pub entry_at : RecordKind → List ℕ → ℕ → Entry
entry_at k bs i = pick (two_byte_species k) (wide_entry bs i) (narrow_entry bs i)
