-- A reserve: a site whose stand has no entries (document 02, E8).
use Rattle.std.specs.Prelude.{◌≡◌}
use Rattle.site.specs.declared.Site.{Site}

abbrev pub Reserve : Site → Type 0
Reserve s = s.stand.count ≡ 0
