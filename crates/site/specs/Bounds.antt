-- What the calculation leans on at a site that passes the check: upper bounds of its values and of the sum of its shares (0 at a reserve), and the least ratio and ceiling.
use Rattle.std.specs.Prelude.{ℕ, ◌≤◌, ◌<◌, List, get_or, take}
use Rattle.site.specs.declared.Site.{Site}
use Rattle.site.specs.declared.Entry.{Entry}
use Rattle.site.specs.Ranges.{parent_range, depth_range, percolation_range, most_entries, share_range, share_sum, most_yield, immobilisation_range, available_range, base_deposition_range, ratio_range, gibbsite_range, ceiling_range, leachate_range, temperature_range, dioxide_range}
use Rattle.site.specs.Kinds.{counted_temperature, counted_dioxide}
use Rattle.site.specs.Values.{shares_of}

-- what stands past the end of a stand
abbrev pub no_entry : Entry
no_entry = record { species = 0; share = 0; yield_kg = 0 }

pub record EntryBounds (e : Entry) : Type 0 where
  pub share : e.share ≤ share_range.most
  pub yielded : e.yield_kg ≤ most_yield

-- the first n entries of a stand
pub record StandBounds (stand : List Entry) (n : ℕ) : Type 0 where
  pub count : n ≤ most_entries
  pub each : (i : ℕ) → i < n → EntryBounds (get_or stand i no_entry)

pub record Bounds (s : Site) : Type 0 where
  pub parent : s.parent ≤ parent_range.most
  pub depth : s.depth ≤ depth_range.most
  pub percolation : s.percolation ≤ percolation_range.most
  pub stand : StandBounds s.stand.entries s.stand.count
  pub shares : shares_of (take s.stand.count s.stand.entries) ≤ share_sum
  pub immobilisation : s.immobilisation ≤ immobilisation_range.most
  pub available : s.available ≤ available_range.most
  pub deposition : s.base_deposition ≤ base_deposition_range.most
  pub ratio : ratio_range.least ≤ s.ratio
  pub gibbsite : s.gibbsite ≤ gibbsite_range.most
  pub ceiling_least : ceiling_range.least ≤ s.ceiling
  pub ceiling : s.ceiling ≤ ceiling_range.most
  pub leachate : s.leachate ≤ leachate_range.most
  pub temperature : counted_temperature s ≤ temperature_range.most
  pub dioxide : counted_dioxide s ≤ dioxide_range.most
