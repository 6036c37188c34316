-- Numbers of two bytes have the high byte first, and past the end of the bytes stand zeros.
use Rattle.std.specs.Prelude.{ℕ, ◌+◌, ◌*◌, ◌/◌, ◌%◌, ◌<◌, List, [], ◌∷◌, get_or}

-- every element is a byte: so it is in every slice of bytes
abbrev pub AllBytes : List ℕ → Type 0
AllBytes bs = (i : ℕ) → get_or bs i 0 < 256

abbrev pub word_of : ℕ → ℕ → ℕ
word_of hi lo = 256 * hi + lo

-- its bytes
abbrev pub word_bytes : ℕ → List ℕ
word_bytes x = (x / 256) ∷ (x % 256) ∷ []

-- the number at place i
abbrev pub word_at : List ℕ → ℕ → ℕ
word_at bs i = word_of (get_or bs i 0) (get_or bs (i + 1) 0)
