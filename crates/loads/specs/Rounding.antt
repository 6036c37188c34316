-- Quotients: n / d is rounded down, up n d is rounded up.
use Rattle.std.specs.Prelude.{ℕ, ◌+◌, ◌-◌, ◌/◌}

unfoldable pub up : ℕ → ℕ → ℕ
up n d = (n + (d - 1)) / d
