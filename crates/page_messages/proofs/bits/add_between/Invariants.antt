use Rattle.page_messages.proofs.Common.{◌≡◌, ◌-◌, ◌++◌, filter, map, range_with_len}
use Rattle.page_messages.specs.Bits.{bit_at, is_held}
use Rattle.page_messages.proofs.bits.add_between.Given as goal

abbrev pub invariant-loop-place : goal.invariant-loop-place
invariant-loop-place l = l.held.items ≡ l.initial.held.items
    ++ filter is_held (map (bit_at l.by) (range_with_len l.first (l.place - l.first)))
