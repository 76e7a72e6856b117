use Rattle.std.proofs.Common.{◌≡◌, ◌+◌, ◌-◌, ◌<◌, ◌≤◌, ℕ, length, get_or}
use Rattle.office_types.proofs.halving.least_in.Given as goal

-- up to `low` the numbers follow one another from the first one on, and from `high` on there was a gap
abbrev pub invariant-loop-low : goal.invariant-loop-low
invariant-loop-low l = record {
  after : l.start ≤ l.low;
  order : l.low ≤ l.high;
  within : l.high ≤ length l.numbers;
  least : (j : ℕ) → l.start ≤ j → j < l.low → get_or l.numbers j 0 + l.start ≡ l.first + j;
  greater : (j : ℕ) → l.high ≤ j → j < length l.numbers → l.first + j < get_or l.numbers j 0 + l.start;
}

abbrev pub decreases-loop-low : goal.decreases-loop-low
decreases-loop-low l = l.high - l.low
