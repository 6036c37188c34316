-- Document 01, "The site's values": the range of each value, and how many bytes and entries there may be.
use Rattle.std.specs.Prelude.{ℕ}
use Rattle.site.specs.declared.ranges.Range.{Range}

-- 01 name
abbrev pub most_name : ℕ
most_name = 8

-- 02 parent material
abbrev pub parent_range : Range
parent_range = record { least = 0; most = 4 }

-- 03 clay and sand: their sum
abbrev pub most_texture : ℕ
most_texture = 100

-- 04 root depth z
abbrev pub depth_range : Range
depth_range = record { least = 1; most = 200 }

-- 05 drainage
abbrev pub drainage_range : Range
drainage_range = record { least = 0; most = 5 }

-- 06 percolation Q
abbrev pub percolation_range : Range
percolation_range = record { least = 1; most = 3000 }

-- 07 stand: entries, of each species, share and yield, and what the shares add up to
abbrev pub most_entries : ℕ
most_entries = 4

abbrev pub most_species : ℕ
most_species = 8

-- the species numbers that stand in a list (document 02, E6)
abbrev pub listed_range : Range
listed_range = record { least = 256; most = 1023 }

abbrev pub share_range : Range
share_range = record { least = 1; most = 100 }

abbrev pub most_yield : ℕ
most_yield = 20000

abbrev pub share_sum : ℕ
share_sum = 100

-- 08 immobilisation Ni
abbrev pub immobilisation_range : Range
immobilisation_range = record { least = 0; most = 500 }

-- 09 plant-available share p
abbrev pub available_range : Range
available_range = record { least = 70; most = 85 }

-- 0A base cation deposition B
abbrev pub base_deposition_range : Range
base_deposition_range = record { least = 0; most = 5000 }

-- 0B critical ratio r
abbrev pub ratio_range : Range
ratio_range = record { least = 100; most = 20000 }

-- 0C gibbsite constant K
abbrev pub gibbsite_range : Range
gibbsite_range = record { least = 1; most = 10000 }

-- 0D hydrogen ceiling H
abbrev pub ceiling_range : Range
ceiling_range = record { least = 1; most = 5000 }

-- 0E acceptable nitrogen in leachate c
abbrev pub leachate_range : Range
leachate_range = record { least = 1; most = 1000 }

-- 0F deposition S and N
abbrev pub deposition_range : Range
deposition_range = record { least = 0; most = 65535 }

-- 10 temperature (document 02, E5): −5 to 20 °C
abbrev pub temperature_range : Range
temperature_range = record { least = 0; most = 25 }

-- 11 soil carbon dioxide P, in units of 0.00001 atm
abbrev pub dioxide_range : Range
dioxide_range = record { least = 0; most = 5000 }

-- "Record, file, listing": a file is 1 to 500 records
abbrev pub most_records : ℕ
most_records = 500
