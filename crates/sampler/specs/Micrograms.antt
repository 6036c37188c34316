-- A float in mg per litre as whole µg per litre, up.
-- A `Float` is `nan`, an infinity, or `fin s m e`: the number m × 2 ^ e, negative where s is true. 2 ^ e is the fraction up e / down e, so the float's
-- size is exactly the fraction (m × up e) / down e, and nothing is rounded but the answer.
use Rattle.std.specs.Prelude.{ℕ, ◌*◌, Bool, not, ◌&&◌, ◌||◌, leb, eqb, Float, Result, Ok, Err}
use Rattle.std.specs.Float.{nan, inf, fin}
use Rattle.std.specs.Float.Ieee.{up as up_power, down as down_power}
use Rattle.site.specs.Choice.{pick}
use Rattle.site.specs.declared.Rule.{Rule}
use Rattle.site.specs.declared.Rule.TheVariants.{BadConcentration}
use Rattle.loads.specs.Rounding.{up}

-- mg per litre
abbrev pub most_concentration : ℕ
most_concentration = 1000

-- µg per litre
abbrev pub most_micrograms : ℕ
most_micrograms = 1000 * most_concentration

-- a sign, true for minus, before a size of a / c: minus zero is not negative
abbrev pub not_negative : Bool → (a : ℕ) → Bool
not_negative minus a = not minus || eqb a 0

-- rule 12
abbrev pub measurable : Bool → (a c : ℕ) → Bool
measurable minus a c = not_negative minus a && leb a (most_concentration * c)

-- the µg, 1000 × a / c, up, where rule 12 passes
abbrev pub size_taken : Bool → (a c : ℕ) → Result ℕ Rule
size_taken minus a c = pick (measurable minus a c) (Ok (up (1000 * a) c)) (Err BadConcentration)

unfoldable pub concentration_of : Float → Result ℕ Rule
concentration_of nan = Err BadConcentration
concentration_of (inf s) = Err BadConcentration
concentration_of (fin s m e) = size_taken s (m * up_power e) (down_power e)
