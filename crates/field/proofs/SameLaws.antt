-- A site with zeros past its name and its entries, and with the temperature that counts, is the same site.
use mathlib.Core.Path.{◌≡◌, refl, sym, ◌∙◌}
use mathlib.Core.List.{List, ◌++◌}
use Prim.Native.Nat.{ℕ, ◌≤◌}
use native.Mathlib.Omega.{arith}
use lib.ListN.{length, take, replicate}
use lib.Seq.{take_at, take-take, length-take-le}
use Rattle.site.specs.declared.Site.{Site}
use Rattle.site.specs.declared.RecordKind.{RecordKind}
use Rattle.site.specs.declared.RecordKind.TheVariants.{Tag52, Tag53, Tag54, Tag55}
use Rattle.site.specs.Kinds.{counted_temperature, counted_dioxide}
use Rattle.std.specs.Prelude.{Ok}
use Rattle.site.specs.Bounds.{no_entry}
use Rattle.site.specs.Check.{due_rule}
use Rattle.site.specs.Values.{item_count}
use Rattle.site.proofs.FieldLaws.{site_passed}
use Rattle.site.proofs.LengthLaws.{count_parts}
use Rattle.field.specs.Clean.{clean, SameSite, Sized}

padded_front : {A : Type 0} (l : List A) (n m : ℕ) (d : A) → length l ≡ m → n ≤ m → take n l ≡ take n (take m (take n l ++ replicate m d))
padded_front l n m d e h = sym (take-take n m (take n l ++ replicate m d) h ∙ take_at (take n l) (replicate m d) n (length-take-le n l (omega arith)))

-- at a clean site the same temperature counts
counted : (s : Site) (k : RecordKind) → s.kind ≡ k → counted_temperature s ≡ counted_temperature (clean s)
unfolding counted_temperature clean
counted s Tag52 e = rw e
counted s Tag53 e = rw e
counted s Tag54 e = rw e
counted s Tag55 e = rw e

-- and the same carbon dioxide
lost : (s : Site) (k : RecordKind) → s.kind ≡ k → counted_dioxide s ≡ counted_dioxide (clean s)
unfolding counted_dioxide clean
lost s Tag52 e = rw e
lost s Tag53 e = rw e
lost s Tag54 e = rw e
lost s Tag55 e = rw e

pub clean_same : (list : List ℕ) (s : Site) → Sized s → due_rule list s ≡ Ok tt → SameSite s (clean s)
unfolding clean item_count
clean_same list s z e = record {
  kind = refl;
  name = padded_front s.name.bytes s.name.len 8 0 z.name (count_parts 1 s (site_passed list s e 1 (omega arith) (omega arith)).0).1;
  name_length = refl;
  entries = refl;
  one = record {
    parent = refl;
    clay = refl;
    sand = refl;
    depth = refl;
    drainage = refl;
    percolation = refl;
    stand = padded_front s.stand.entries s.stand.count 4 no_entry z.stand (count_parts 7 s (site_passed list s e 7 (omega arith) (omega arith)).0).1;
    immobilisation = refl;
    available = refl;
    deposition = refl;
    ratio = refl;
    gibbsite = refl;
    ceiling = refl;
    leachate = refl;
    temperature = counted s s.kind refl;
    dioxide = lost s s.kind refl;
  };
  sulphur = refl;
  nitrogen = refl;
}
