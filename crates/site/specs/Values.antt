-- Document 01, "The site's values", and document 02: what rules 7 to 10 and 16 ask of each field, by its tag.
use Rattle.std.specs.List.{list_all}
use Rattle.std.specs.Prelude.{ℕ, ◌+◌, ◌*◌, ◌%◌, Bool, true, ◌&&◌, ◌||◌, List, [], ◌∷◌, leb, eqb, get_or, take, Ok, Err}
use Rattle.site.specs.Choice.{pick}
use Rattle.site.specs.declared.ranges.Range.{Range}
use Rattle.site.specs.Ranges.{most_name, parent_range, most_texture, depth_range, drainage_range, percolation_range, most_entries, most_species, listed_range, share_range, most_yield, share_sum, immobilisation_range, available_range, base_deposition_range, ratio_range, gibbsite_range, ceiling_range, leachate_range, temperature_range, dioxide_range}
use Rattle.site.specs.declared.Site.{Site}
use Rattle.site.specs.declared.Entry.{Entry}
use Rattle.site.specs.declared.length.Items.{Items}
use Rattle.site.specs.declared.Rule.TheVariants.{BadLength, OutOfRange, NotRising, SharesNotWhole, NotListed}
use Rattle.site.specs.Refusal.{Checked, and_then}
use Rattle.site.specs.declared.RecordKind.{RecordKind}
use Rattle.site.specs.Kinds.{two_byte_species, entry_width}
use Rattle.site.specs.SpeciesList.{lists}

-- a field holds from l to n items of w bytes each: the name its bytes, the stand its entries, every other field one value
abbrev pub items : ℕ → ℕ → ℕ → Items
items w l n = record { width = w; least = l; most = n }

abbrev pub one_value : ℕ → Items
one_value w = items w 1 1

-- no such field, not even one of no bytes
abbrev pub no_items : Items
no_items = items 1 1 0

-- the column "Bytes" of document 01, then document 02's, by tag from 0
abbrev pub field_items : RecordKind → List Items
field_items k =
    no_items
    ∷ items 1 1 most_name  -- 01 name
    ∷ one_value 1  -- 02 parent material
    ∷ one_value 2  -- 03 clay, sand
    ∷ one_value 1  -- 04 depth
    ∷ one_value 1  -- 05 drainage
    ∷ one_value 2  -- 06 percolation
    ∷ items (entry_width k) 0 most_entries  -- 07 stand: a reserve has no entries (document 02, E8)
    ∷ one_value 2  -- 08 immobilisation
    ∷ one_value 1  -- 09 available share
    ∷ one_value 2  -- 0A base cation deposition
    ∷ one_value 2  -- 0B ratio
    ∷ one_value 2  -- 0C gibbsite constant
    ∷ one_value 2  -- 0D ceiling
    ∷ one_value 2  -- 0E leachate
    ∷ one_value 4  -- 0F deposition
    ∷ one_value 1  -- 10 temperature
    ∷ one_value 2  -- 11 soil carbon dioxide
    ∷ []

abbrev pub items_of : RecordKind → ℕ → Items
items_of k t = get_or (field_items k) t no_items

-- rule 7 for n bytes: a whole number of items, as many as are permitted
unfoldable pub length_permitted : RecordKind → ℕ → ℕ → Bool
length_permitted k t n =
    leb ((items_of k t).width * (items_of k t).least) n && leb n ((items_of k t).width * (items_of k t).most) && eqb (n % (items_of k t).width) 0

-- rule 7 for a site value
unfoldable pub item_count : ℕ → Site → ℕ
item_count t s = pick (eqb t 1) s.name.len (pick (eqb t 7) s.stand.count 1)

unfoldable pub count_rule : ℕ → Site → Checked
count_rule t s =
    pick (leb (items_of s.kind t).least (item_count t s) && leb (item_count t s) (items_of s.kind t).most) (Ok tt) (Err BadLength)

-- A–Z, 0–9, hyphen
unfoldable pub name_byte : ℕ → Bool
name_byte b = leb 65 b && leb b 90 || leb 48 b && leb b 57 || eqb b 45

-- rule 8
abbrev pub ranged : Bool → Checked
ranged b = pick b (Ok tt) (Err OutOfRange)

abbrev pub inside : Range → ℕ → Bool
inside r x = leb r.least x && leb x r.most

unfoldable pub between : Range → ℕ → Checked
between r x = ranged (inside r x)

-- the species numbers of a kind: 0 to 8, and where a number has two bytes those of a list as well
abbrev pub species_ranged : RecordKind → ℕ → Bool
species_ranged k n = leb n most_species || two_byte_species k && inside listed_range n

unfoldable pub entry_ranged : RecordKind → Entry → Bool
entry_ranged k e = species_ranged k e.species && inside share_range e.share && leb e.yield_kg most_yield

-- species rise strictly, the first at least lo
unfoldable pub rising_from : ℕ → List Entry → Bool
rising_from lo [] = true
rising_from lo (e ∷ es) = leb lo e.species && rising_from (e.species + 1) es

unfoldable pub shares_of : List Entry → ℕ
shares_of [] = 0
shares_of (e ∷ es) = e.share + shares_of es

-- rule 9, then 10, by whether species rise and shares are whole
abbrev pub order_rule : Bool → Bool → Checked
order_rule rising whole = pick rising (pick whole (Ok tt) (Err SharesNotWhole)) (Err NotRising)

-- rules 9 and 10 of a stand; they don't apply to a reserve, which has no entries (document 02, E8)
unfoldable pub composition_rule : List Entry → Checked
composition_rule [] = Ok tt
composition_rule (e ∷ es) = order_rule (rising_from 0 (e ∷ es)) (eqb (shares_of (e ∷ es)) share_sum)

-- rule 8 over all entries, then 9 and 10
unfoldable pub entries_rule : RecordKind → List Entry → Checked
entries_rule k es = pick (list_all (entry_ranged k) es) (composition_rule es) (Err OutOfRange)

-- the species stands in the table or in the list
unfoldable pub species_known : List ℕ → Entry → Bool
species_known list e = leb e.species most_species || lists list e.species

-- rule 16
unfoldable pub known_rule : List ℕ → List Entry → Checked
known_rule list es = pick (list_all (species_known list) es) (Ok tt) (Err NotListed)

unfoldable pub stand_rule : List ℕ → RecordKind → List Entry → Checked
stand_rule list k es = and_then (entries_rule k es) (known_rule list es)

-- rules 8, 9, 10 and 16 of each field of kind k, by tag from 0, with the list that is lent
abbrev pub value_rules : List ℕ → RecordKind → Site → List Checked
value_rules list k s =
    Ok tt
    ∷ ranged (list_all name_byte (take s.name.len s.name.bytes))  -- 01
    ∷ between parent_range s.parent  -- 02
    ∷ ranged (leb (s.clay + s.sand) most_texture)  -- 03
    ∷ between depth_range s.depth  -- 04
    ∷ between drainage_range s.drainage  -- 05
    ∷ between percolation_range s.percolation  -- 06
    ∷ stand_rule list k (take s.stand.count s.stand.entries)  -- 07
    ∷ between immobilisation_range s.immobilisation  -- 08
    ∷ between available_range s.available  -- 09
    ∷ between base_deposition_range s.base_deposition  -- 0A
    ∷ between ratio_range s.ratio  -- 0B
    ∷ between gibbsite_range s.gibbsite  -- 0C
    ∷ between ceiling_range s.ceiling  -- 0D
    ∷ between leachate_range s.leachate  -- 0E
    ∷ Ok tt  -- 0F: the deposition's range is all that two bytes hold
    ∷ between temperature_range s.temperature  -- 10
    ∷ between dioxide_range s.dioxide  -- 11
    ∷ []

unfoldable pub value_rule : List ℕ → RecordKind → ℕ → Site → Checked
value_rule list k t s = get_or (value_rules list k s) t (Ok tt)
