-- The table of t has its rule, and what that says of each entry.
use Prim.Native.Nat.{ℕ, suc, ◌+◌, ◌-◌, ◌*◌, ◌/◌, ◌≤◌, ◌<◌}
use mathlib.Core.Path.{◌≡◌, refl, sym, ap, ◌∙◌}
use mathlib.Core.Bool.{Bool, true, false, false≢true}
use mathlib.Core.List.{map}
use native.Mathlib.Omega.{arith}
use native.Mathlib.Nat.{le-div_iff_mul-le, div-lt_iff_lt-mul, le_of_eq, lt-suc_self, suc-mul, mul_assoc}
use lib.IntN.{pos, negsuc}
use lib.Dec.{leb, eqb}
use lib.ListN.{get_or}
use borrow.Author.Tests.{leb-true}
use Rattle.std.specs.Prelude.{Ok}
use Rattle.std.specs.List.{range_with_len}
use Rattle.std.proofs.lemmas.List.{get_or-map}
use Rattle.std.proofs.lemmas.List.FromFn.{get_or-map-range_with_len}
use Rattle.site.specs.Ranges.{temperature_range}
use Rattle.site.specs.Bounds.{Bounds}
use Rattle.site.specs.Check.{due_rule}
use Rattle.site.proofs.BoundsLaw.{bounds}
use mathlib.Core.List.{List}
use Rattle.site.specs.declared.Site.{Site}
use Rattle.site.specs.declared.RecordKind.TheVariants.{Tag52}
use Rattle.site.specs.Kinds.{counted_temperature}
use Rattle.site.proofs.BelowLaws.{one_below}
use Rattle.loads.specs.MostTerms.{most_factor}
use Rattle.loads.specs.Fractions.{Fraction, ◌over◌, power, factorial, nearest}
use Rattle.site.specs.Choice.{pick}
use Rattle.loads.specs.Texture.{texture_of}
use Rattle.loads.specs.Weathering.{class_of, weathering_of, weathering}
use Rattle.loads.specs.Temperature.{series, thousand_sums, factor_by_rule, NearestTo, factors, factor_by_table, temperature_factor}

-- each of the 26 entries is the whole number nearest to its sum
pub factors_are : map factor_by_rule (range_with_len 0 26) ≡ map pos factors
unfolding factor_by_rule thousand_sums series power factorial
factors_are = refl

pub factor_is : (byte : ℕ) → byte ≤ temperature_range.most → factor_by_rule byte ≡ pos (factor_by_table byte)
factor_is byte h =
    sym (get_or-map-range_with_len factor_by_rule 0 26 byte byte (pos 0) (omega arith) (omega arith))
    ∙ ap (λ ts. get_or ts byte (pos 0)) factors_are
    ∙ get_or-map pos factors byte 0 (pos 0) (omega arith)

pub factor_le : (byte : ℕ) → byte ≤ temperature_range.most → factor_by_table byte ≤ most_factor
factor_le byte h = leb-true _ _ (one_below (λ b. leb (factor_by_table b) most_factor) 26 refl byte (omega arith))

-- ---- what the nearest is, where the sum is above 0, as each of the 26 is

nearest_means : (a b t : ℕ) → 0 < b → nearest (pos a over pos b) ≡ pos t → (2 * (t * b) ≤ 2 * a + b) × (2 * a < 2 * (t * b) + b)
nearest_means a b t p h =
    let q : (a * 2 + 1 * b) / (b * 2) ≡ t = cc in
    let d : 0 < b * 2 = omega arith in
    let low : t * (b * 2) ≤ a * 2 + 1 * b = (le-div_iff_mul-le d).0 (le_of_eq (sym q)) in
    let high : a * 2 + 1 * b < suc t * (b * 2) = (div-lt_iff_lt-mul d).0 (rw q (lt-suc_self t)) in
    let e : t * (b * 2) ≡ t * b * 2 = sym (mul_assoc t b 2) in
    (omega (arith, e), omega (arith, e, suc-mul t (b * 2)))

above_0 : Fraction → Bool
above_0 ((pos a) over (pos b)) = leb 1 b
above_0 ((pos a) over (negsuc b)) = false
above_0 ((negsuc a) over d) = false

sums_above_0 : (byte : ℕ) → byte ≤ temperature_range.most → above_0 (thousand_sums byte) ≡ true
unfolding above_0 thousand_sums series power factorial
sums_above_0 byte h = one_below (λ b. above_0 (thousand_sums b)) 26 refl byte (omega arith)

as_nearest : (x : Fraction) (t : ℕ) → above_0 x ≡ true → nearest x ≡ pos t → NearestTo x t
unfolding above_0
as_nearest ((pos a) over (pos b)) t above e =
    let p : 0 < b = leb-true 1 b above in
    let m = nearest_means a b t p e in
    record { a = a; b = b; fraction = refl; below = p; least = m.0; most = m.1 }
as_nearest ((pos a) over (negsuc b)) t above e = absurd (false≢true above)
as_nearest ((negsuc a) over d) t above e = absurd (false≢true above)

pub factor_nearest : (byte : ℕ) → byte ≤ temperature_range.most → NearestTo (thousand_sums byte) (factor_by_table byte)
unfolding factor_by_rule
factor_nearest byte h = as_nearest (thousand_sums byte) (factor_by_table byte) (sums_above_0 byte h) (factor_is byte h)

-- byte 13 is T = 8
pub at_eight : factor_by_rule 13 ≡ pos 1000
at_eight = factor_is 13 (omega arith)

-- at t = 1000
hundredth : (a : ℕ) → a * 1000 / 100000 ≡ a / 100
hundredth a = omega arith

module _ (s : Site) where
  -- t of a site by the table, by the rule, and its bound
  pub tabled : Bounds s
      → record {
        value : factor_by_table (counted_temperature s) ≡ temperature_factor s;
        rule : factor_by_rule (counted_temperature s) ≡ pos (factor_by_table (counted_temperature s));
        most : factor_by_table (counted_temperature s) ≤ most_factor;
      }
  unfolding temperature_factor
  tabled b = record { value = refl; rule = factor_is _ b.temperature; most = factor_le _ b.temperature }

  pub site_factor_le : Bounds s → temperature_factor s ≤ most_factor
  unfolding temperature_factor
  site_factor_le b = factor_le _ b.temperature

  -- so at every site that passes, W is made with the rule's t
  pub passing_weathering : (list : List ℕ) → due_rule list s ≡ Ok tt → record {
    t : ℕ;
    rule : factor_by_rule (counted_temperature s) ≡ pos t;
    made : weathering s ≡ pick (eqb s.parent 0) 0 ((500 * class_of s.parent (texture_of s.clay s.sand) - 250) * s.depth * t / 100000);
  }
  unfolding weathering weathering_of temperature_factor
  passing_weathering list e = record { t = temperature_factor s; rule = factor_is _ (bounds list s e).temperature; made = refl }

  -- kind 52 keeps its meaning
  pub factor_52 : s.kind ≡ Tag52 → temperature_factor s ≡ 1000
  unfolding temperature_factor counted_temperature
  factor_52 e = rw e

  -- so W is document 01's
  pub weathering_52 : s.kind ≡ Tag52 → weathering s ≡ pick (eqb s.parent 0) 0 ((500 * class_of s.parent (texture_of s.clay s.sand) - 250) * s.depth / 100)
  unfolding weathering weathering_of
  weathering_52 e = rw (factor_52 e, hundredth ((500 * class_of s.parent (texture_of s.clay s.sand) - 250) * s.depth))
