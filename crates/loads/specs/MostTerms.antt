-- Upper bounds of the terms at a site that passes the check, and of the loads and sums made of them, and the least e, each written once.
use Rattle.std.specs.Prelude.{ℕ, ◌+◌, ◌*◌, ◌-◌, ◌/◌}
use Rattle.site.specs.Ranges.{depth_range, percolation_range, share_range, share_sum, most_yield, immobilisation_range, available_range, base_deposition_range, ratio_range, ceiling_range, leachate_range, dioxide_range}
use Rattle.loads.specs.Uptake.{uptake_divisor}

-- t, at 20 °C
abbrev pub most_factor : ℕ
most_factor = 1690

-- W, at class 20; 32955
abbrev pub most_weathering : ℕ
most_weathering = (500 * 20 - 250) * depth_range.most * most_factor / 100000

-- w; 28011
abbrev pub most_available : ℕ
most_available = most_weathering * available_range.most / 100

-- B + W − Bu; 37955
abbrev pub most_supply : ℕ
most_supply = base_deposition_range.most + most_weathering

-- A; 495165
abbrev pub most_a : ℕ
most_a = 1500 * (base_deposition_range.most + most_available) / ratio_range.least

-- hydrogen; 15000
abbrev pub most_hydrogen : ℕ
most_hydrogen = percolation_range.most * ceiling_range.most / 1000

-- bicarbonate; 300000
abbrev pub most_bicarbonate : ℕ
most_bicarbonate = percolation_range.most * dioxide_range.most / 50

-- L; 30000
abbrev pub most_l : ℕ
most_l = percolation_range.most * leachate_range.most / 100

-- CLmaxS; 548120
abbrev pub most_max_s : ℕ
most_max_s = most_supply + most_hydrogen + most_a

-- share × yield × content of one entry, for N and for Ca + Mg + K, with contents of two bytes
abbrev pub most_nitrogen_weight : ℕ
most_nitrogen_weight = share_range.most * most_yield * 65535

abbrev pub most_base_weight : ℕ
most_base_weight = share_range.most * most_yield * (3 * 65535)

-- Nu, of shares that add up to 100, or of none; 13107
abbrev pub most_nu : ℕ
most_nu = share_sum * most_yield * 65535 / uptake_divisor

-- the base demand; 39321
abbrev pub most_demand : ℕ
most_demand = share_sum * most_yield * (3 * 65535) / uptake_divisor

-- CLminN; 13607
abbrev pub most_min_n : ℕ
most_min_n = most_nu + immobilisation_range.most

-- d
abbrev pub most_d : ℕ
most_d = 800

-- e, the least; 200
abbrev pub least_e : ℕ
least_e = 1000 - most_d

-- CLmaxN; 2754207
abbrev pub most_max_n : ℕ
most_max_n = most_min_n + 1000 * most_max_s / least_e

-- CLnutN; 163607
abbrev pub most_nut_n : ℕ
most_nut_n = most_min_n + 1000 * most_l / least_e
