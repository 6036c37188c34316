-- What reading and writing keep of a site.
use Rattle.std.specs.Prelude.{◌≡◌, ◌++◌, take, length, replicate}
use Rattle.site.specs.declared.Site.{Site}
use Rattle.site.specs.Kinds.{counted_temperature, counted_dioxide}
use Rattle.site.specs.Bounds.{no_entry}
use Rattle.site.specs.OneSite.{OneSite}

-- the site with zeros past its name's length and its entries' count, and with the temperature and the carbon dioxide that count
unfoldable pub clean : Site → Site
clean s = record s {
  name = record { bytes = take 8 (take s.name.len s.name.bytes ++ replicate 8 0); len = s.name.len };
  stand = record { entries = take 4 (take s.stand.count s.stand.entries ++ replicate 4 no_entry); count = s.stand.count };
  temperature = counted_temperature s;
  dioxide = counted_dioxide s;
}

-- s and t are the same site: all values are equal, name and stand up to their lengths, and of the temperature the one that counts; what stands past them, or
-- in the temperature's place of a kind without it, is no part of a site
pub record SameSite (s t : Site) : Type 0 where
  pub kind : s.kind ≡ t.kind
  pub name : take s.name.len s.name.bytes ≡ take t.name.len t.name.bytes
  pub name_length : s.name.len ≡ t.name.len
  pub entries : s.stand.count ≡ t.stand.count
  pub one : OneSite s t
  pub sulphur : s.sulphur ≡ t.sulphur
  pub nitrogen : s.nitrogen ≡ t.nitrogen

-- the lengths of a site's arrays: those of their types, so every site of the code has them
pub record Sized (s : Site) : Type 0 where
  pub name : length s.name.bytes ≡ 8
  pub stand : length s.stand.entries ≡ 4
