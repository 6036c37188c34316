-- The fields of a site record by tag, both ways: a value taken into a site, and the bytes of a site's value.
use Rattle.std.specs.Prelude.{ℕ, ◌*◌, ◌/◌, ◌%◌, List, [], ◌∷◌, ◌++◌, eqb, get_or, length, take, replicate}
use Rattle.site.specs.declared.Entry.{Entry}
use Rattle.site.specs.declared.Site.{Site}
use Rattle.site.specs.Bounds.{no_entry}
use Rattle.numbers.specs.TwoBytes.{word_at, word_bytes}
use Rattle.site.specs.Bytes.{tabulate, name_in, entry_at}
use Rattle.site.specs.Choice.{pick}
use Rattle.site.specs.declared.RecordKind.{RecordKind}
use Rattle.site.specs.declared.RecordKind.TheVariants.{Tag52}
use Rattle.site.specs.Kinds.{kind_tag, due, two_byte_species, entry_width, reference_temperature}
use Rattle.site.specs.Values.{length_permitted, value_rule}
use Rattle.field.specs.Kind.{Kind}

-- the value v of the field with tag t in a record of kind k, put into s; past v's end stand zeros
unfoldable pub store : RecordKind → ℕ → List ℕ → Site → Site
store k t v s = record {
  kind = s.kind;
  name = pick (eqb t 1) (record { bytes = name_in v; len = length v }) s.name;
  parent = pick (eqb t 2) (get_or v 0 0) s.parent;
  clay = pick (eqb t 3) (get_or v 0 0) s.clay;
  sand = pick (eqb t 3) (get_or v 1 0) s.sand;
  depth = pick (eqb t 4) (get_or v 0 0) s.depth;
  drainage = pick (eqb t 5) (get_or v 0 0) s.drainage;
  percolation = pick (eqb t 6) (word_at v 0) s.percolation;
  stand = pick (eqb t 7) (record { entries = tabulate 4 (λ i. entry_at k v (entry_width k * i)); count = length v / entry_width k }) s.stand;
  immobilisation = pick (eqb t 8) (word_at v 0) s.immobilisation;
  available = pick (eqb t 9) (get_or v 0 0) s.available;
  base_deposition = pick (eqb t 10) (word_at v 0) s.base_deposition;
  ratio = pick (eqb t 11) (word_at v 0) s.ratio;
  gibbsite = pick (eqb t 12) (word_at v 0) s.gibbsite;
  ceiling = pick (eqb t 13) (word_at v 0) s.ceiling;
  leachate = pick (eqb t 14) (word_at v 0) s.leachate;
  sulphur = pick (eqb t 15) (word_at v 0) s.sulphur;
  nitrogen = pick (eqb t 15) (word_at v 2) s.nitrogen;
  temperature = pick (eqb t 16) (get_or v 0 0) s.temperature;
  dioxide = pick (eqb t 17) (word_at v 0) s.dioxide;
}

-- the bytes of a species number: both, or the low one alone, which is the number itself in every site of kinds 52 and 53 that passes; and of entries
abbrev pub species_bytes : RecordKind → ℕ → List ℕ
species_bytes k n = pick (two_byte_species k) (word_bytes n) (n % 256 ∷ [])

unfoldable pub entry_bytes : RecordKind → Entry → List ℕ
entry_bytes k e = species_bytes k e.species ++ e.share ∷ word_bytes e.yield_kg

unfoldable pub entries_bytes : RecordKind → List Entry → List ℕ
entries_bytes k [] = []
entries_bytes k (e ∷ es) = entry_bytes k e ++ entries_bytes k es

-- the site that reading a record of kind 52 starts from; the temperature is that of 8 °C, and there is no soil carbon dioxide
unfoldable pub blank_site : Site
blank_site = record {
  kind = Tag52;
  name = record { bytes = replicate 8 0; len = 0 };
  parent = 0;
  clay = 0;
  sand = 0;
  depth = 0;
  drainage = 0;
  percolation = 0;
  stand = record { entries = replicate 4 no_entry; count = 0 };
  immobilisation = 0;
  available = 0;
  base_deposition = 0;
  ratio = 0;
  gibbsite = 0;
  ceiling = 0;
  leachate = 0;
  sulphur = 0;
  nitrogen = 0;
  temperature = reference_temperature;
  dioxide = 0;
}

-- and of every kind
unfoldable pub blank_of : RecordKind → Site
blank_of k = record blank_site { kind = k }

-- the bytes of the values in a record of kind k, by tag from 0
abbrev pub values : RecordKind → Site → List (List ℕ)
values k s =
    []
    ∷ take s.name.len s.name.bytes  -- 01
    ∷ (s.parent ∷ [])  -- 02
    ∷ (s.clay ∷ s.sand ∷ [])  -- 03
    ∷ (s.depth ∷ [])  -- 04
    ∷ (s.drainage ∷ [])  -- 05
    ∷ word_bytes s.percolation  -- 06
    ∷ entries_bytes k (take s.stand.count s.stand.entries)  -- 07
    ∷ word_bytes s.immobilisation  -- 08
    ∷ (s.available ∷ [])  -- 09
    ∷ word_bytes s.base_deposition  -- 0A
    ∷ word_bytes s.ratio  -- 0B
    ∷ word_bytes s.gibbsite  -- 0C
    ∷ word_bytes s.ceiling  -- 0D
    ∷ word_bytes s.leachate  -- 0E
    ∷ (word_bytes s.sulphur ++ word_bytes s.nitrogen)  -- 0F
    ∷ (s.temperature ∷ [])  -- 10
    ∷ word_bytes s.dioxide  -- 11
    ∷ []

-- the bytes of the value with tag t; another tag has none
unfoldable pub value : RecordKind → ℕ → Site → List ℕ
value k t s = get_or (values k s) t []

-- the record of a site, by its kind, with the list that is lent; nothing but its rules depends on the list
abbrev pub site_kind : List ℕ → RecordKind → Kind Site
site_kind list k =
    record { tag = kind_tag k; due = due k; blank = blank_of k; permitted = length_permitted k; store = store k; rule = value_rule list k; bytes = value k }

-- the site with the field's value, where its length is permitted: also if a later rule refuses it
unfoldable pub taken : RecordKind → ℕ → List ℕ → Site → Site
taken k t v s = pick (length_permitted k t (length v)) (store k t v s) s
