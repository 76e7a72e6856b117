-- A walk as an interval, which is how the code keeps it.
use Rattle.std.specs.Prelude.{ℕ, ◌+◌, ◌-◌, ◌*◌, ◌/◌, ◌%◌, ◌<◌, ◌≤◌}
use Rattle.bitlayout.specs.declared.layout.Order.{Order}
use Rattle.bitlayout.specs.declared.layout.Order.TheVariants.{Intel, Motorola}
use Rattle.bitlayout.specs.declared.interval.Interval.{Interval}

-- the number of a position once each byte is numbered in the order's own direction
abbrev pub rank : Order → ℕ → ℕ
rank Intel p = p
rank Motorola p = 8 * (p / 8) + (7 - p % 8)

-- n is one of the interval's numbers
abbrev pub IsWithin : Interval → ℕ → Type 0
IsWithin interval n = (interval.first ≤ n) × (n < interval.end)
