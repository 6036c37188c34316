-- Two pairs are at one site when all the site values that go with them, but name and pair, are equal. The kind of the record is none of these values: the
-- temperature is the one that counts, and so is the carbon dioxide. Nor is the list of species: what speaks of two sites takes one list for both.
use Rattle.std.specs.Prelude.{◌≡◌, take}
use Rattle.site.specs.declared.Site.{Site}
use Rattle.site.specs.Kinds.{counted_temperature, counted_dioxide}

pub record OneSite (s t : Site) : Type 0 where
  pub parent : s.parent ≡ t.parent
  pub clay : s.clay ≡ t.clay
  pub sand : s.sand ≡ t.sand
  pub depth : s.depth ≡ t.depth
  pub drainage : s.drainage ≡ t.drainage
  pub percolation : s.percolation ≡ t.percolation
  pub stand : take s.stand.count s.stand.entries ≡ take t.stand.count t.stand.entries
  pub immobilisation : s.immobilisation ≡ t.immobilisation
  pub available : s.available ≡ t.available
  pub deposition : s.base_deposition ≡ t.base_deposition
  pub ratio : s.ratio ≡ t.ratio
  pub gibbsite : s.gibbsite ≡ t.gibbsite
  pub ceiling : s.ceiling ≡ t.ceiling
  pub leachate : s.leachate ≡ t.leachate
  pub temperature : counted_temperature s ≡ counted_temperature t
  pub dioxide : counted_dioxide s ≡ counted_dioxide t
