-- 17 names a field of the file: at its offset stands the tag 07 or 10.
use mathlib.Core.Path.{◌≡◌, refl, ap, ◌∙◌}
use mathlib.Core.Bool.{Bool, true, false, ◌||◌, or-true}
use mathlib.Core.Logic.{◌⊎◌, inl, inr}
use mathlib.Core.List.{List, ◌∷◌, ◌++◌}
use native.Mathlib.Omega.{arith}
use Prim.Native.Nat.{ℕ, ◌+◌, ◌-◌}
use lib.Dec.{eqb}
use lib.ListN.{length, get_or, take, drop}
use Rattle.std.specs.Prelude.{Ok, Err}
use Rattle.std.proofs.lemmas.Grind.{flat_map-append}
use Rattle.std.proofs.lemmas.List.{get_or-append-add}
use Rattle.numbers.specs.TwoBytes.{AllBytes}
use Rattle.site.specs.Choice.{pick}
use Rattle.site.specs.Kinds.{due, has_temperature, reference_temperature, counted_temperature}
use Rattle.site.specs.Refusal.{Checked, unless}
use Rattle.site.specs.declared.RecordKind.{RecordKind}
use Rattle.site.specs.declared.RecordKind.TheVariants.{Tag52, Tag53, Tag54, Tag55}
use Rattle.site.specs.declared.Refusal.{Refusal}
use Rattle.site.specs.declared.Rule.{Rule}
use Rattle.site.specs.declared.Rule.TheVariants.{NotConvertible}
use Rattle.site.specs.declared.Site.{Site}
use Rattle.record.specs.File.{contents}
use Rattle.record.specs.Writer.{encode}
use Rattle.record.proofs.SiteFile.{sites_written}
use Rattle.convert.specs.declared.targets.Target.{Target}
use Rattle.convert.specs.Target.{kind_of}
use Rattle.convert.specs.Moved.{Older, convertible, species_convertible, temperature_convertible, field_start}
use Rattle.convert.specs.Converted.{if_convertible, all_moved, file_of, Inconvertible, stand, temperature, FirstInconvertible}
use Rattle.convert.proofs.ConvertedLaws.{first_inconvertible}
use Rattle.convert.proofs.FieldStarts.{starts, stand_start, temperature_start}

not_convertible : (b : Bool) {r : Rule} → convertible b ≡ Err r → r ≡ NotConvertible
not_convertible true e = cc
not_convertible false e = cc

-- a site whose temperature a record without field 10 cannot hold has this field
pub has_field_10 : (k : Target) (s : Site) {r : Rule} → temperature_convertible k s ≡ Err r → has_temperature s.kind ≡ true
unfolding temperature_convertible counted_temperature
has_field_10 k s {r} e = by_kind s.kind e
  where
    by_kind : (j : RecordKind) → convertible (has_temperature (kind_of k) || eqb (pick (has_temperature j) s.temperature reference_temperature) reference_temperature) ≡ Err r → has_temperature j ≡ true
    by_kind Tag52 e = let passed = rw or-true at e in cc
    by_kind Tag53 e = refl
    by_kind Tag54 e = refl
    by_kind Tag55 e = refl

-- where the two fields stand among those that are due
stand_due : (k : RecordKind) → due k ≡ take 6 (due k) ++ 7 ∷ drop 7 (due k)
stand_due Tag52 = refl
stand_due Tag53 = refl
stand_due Tag54 = refl
stand_due Tag55 = refl

temperature_due : (k : RecordKind) → has_temperature k ≡ true → due k ≡ take 15 (due k) ++ 16 ∷ drop 16 (due k)
temperature_due Tag52 has = cc
temperature_due Tag53 has = refl
temperature_due Tag54 has = refl
temperature_due Tag55 has = refl

module _ (list f : List ℕ) (b : AllBytes f) (k : Target) (ss : List Site) (e : contents list f ≡ Ok ss) {r : Refusal} (fault : all_moved k 0 ss ≡ Err r) where
  pub first : FirstInconvertible k ss r
  first = first_inconvertible k ss fault

  bytes : f ≡ file_of first.before ++ (encode first.site ++ file_of first.after)
  bytes = sites_written list f b ss e ∙ ap file_of first.order ∙ flat_map-append encode first.before (first.site ∷ first.after)

  -- the field t of this record starts with its tag
  there : (t : ℕ) → due first.site.kind ≡ take (t - 1) (due first.site.kind) ++ t ∷ drop t (due first.site.kind)
      → r.at ≡ length (file_of first.before) + field_start t first.site → get_or f r.at 0 ≡ t
  there t order at =
      ap (λ (n : ℕ). get_or f n 0) at
      ∙ ap (λ (bs : List ℕ). get_or bs (length (file_of first.before) + field_start t first.site) 0) bytes
      ∙ get_or-append-add (file_of first.before) (encode first.site ++ file_of first.after) (field_start t first.site) 0
      ∙ starts first.site t (drop t (due first.site.kind)) (file_of first.after) order

  -- the condition that is broken, and the tag at the offset
  abbrev pub FieldThere : Type 0
  FieldThere =
      ((species_convertible k first.site ≡ Err NotConvertible) × (get_or f r.at 0 ≡ 7))
      ⊎ ((species_convertible k first.site ≡ Ok tt) × ((temperature_convertible k first.site ≡ Err NotConvertible) × (get_or f r.at 0 ≡ 16)))

  pub fault_at_field : (r.rule ≡ NotConvertible) × FieldThere
  unfolding species_convertible temperature_convertible
  fault_at_field = by_field first.here
    where
      by_field : Inconvertible k (length (file_of first.before)) first.site r → (r.rule ≡ NotConvertible) × FieldThere
      by_field (stand broken at) = let is = not_convertible _ broken in (is, inl (broken ∙ ap Err is, there 7 (stand_due first.site.kind) at))
      by_field (temperature passed broken at) =
          let is = not_convertible _ broken in (is, inr (passed, (broken ∙ ap Err is, there 16 (temperature_due first.site.kind (has_field_10 k first.site broken)) at)))

-- rule 17 by what the fields say: field 07 starts behind the name, and field 10, where it breaks the rule, 4 bytes before the record's end
pub convertible_by_field : (k : Target) (s : Site) → Older s → (at n : ℕ) → n ≡ length (encode s)
    → if_convertible {A = Unit {0}} k s at (Ok tt) ≡ unless (species_convertible k s) (at + 28 + length (take s.name.len s.name.bytes)) (unless (temperature_convertible k s) (at + n - 4) (Ok tt))
unfolding if_convertible unless
convertible_by_field k s old at n e = by_rules (species_convertible k s) (temperature_convertible k s) refl
  where
    stand_at : at + field_start 7 s ≡ at + 28 + length (take s.name.len s.name.bytes)
    stand_at = omega (arith, stand_start s)

    temperature_at : {r : Rule} → temperature_convertible k s ≡ Err r → at + field_start 16 s ≡ at + n - 4
    temperature_at broken = omega (arith, temperature_start s (has_field_10 k s broken) old)

    by_rules : (a b : Checked) → temperature_convertible k s ≡ b
        → unless {A = Unit {0}} a (at + field_start 7 s) (unless b (at + field_start 16 s) (Ok tt)) ≡ unless a (at + 28 + length (take s.name.len s.name.bytes)) (unless b (at + n - 4) (Ok tt))
    by_rules (Err r) b q = rw stand_at
    by_rules (Ok u) (Ok v) q = refl
    by_rules (Ok u) (Err r) q = rw (temperature_at q)
