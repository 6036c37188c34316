-- Site A1 of document 01, "Record, file, listing", and the same site as a reserve.
use Rattle.std.specs.Prelude.{[], ◌∷◌}
use Rattle.site.specs.declared.Site.{Site}
use Rattle.site.specs.declared.RecordKind.TheVariants.{Tag52}
use Rattle.site.specs.Bounds.{no_entry}

abbrev pub a1 : Site
a1 = record {
  kind = Tag52;
  name = record { bytes = 65 ∷ 49 ∷ 0 ∷ 0 ∷ 0 ∷ 0 ∷ 0 ∷ 0 ∷ []; len = 2 };
  parent = 1;
  clay = 10;
  sand = 65;
  depth = 50;
  drainage = 1;
  percolation = 200;
  stand = record { entries = record { species = 0; share = 100; yield_kg = 2000 } ∷ no_entry ∷ no_entry ∷ no_entry ∷ []; count = 1 };
  immobilisation = 50;
  available = 80;
  base_deposition = 300;
  ratio = 1000;
  gibbsite = 3000;
  ceiling = 1000;
  leachate = 20;
  sulphur = 500;
  nitrogen = 700;
  temperature = 13;
  dioxide = 0;
}

abbrev pub a1_reserve : Site
a1_reserve = record a1 { stand = record { entries = no_entry ∷ no_entry ∷ no_entry ∷ no_entry ∷ []; count = 0 } }
