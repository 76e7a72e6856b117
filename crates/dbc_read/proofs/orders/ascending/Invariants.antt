use Rattle.dbc_read.proofs.Common.{◌≡◌, ◌++◌, ◌-◌, range_with_len}
use Rattle.dbc_read.proofs.orders.ascending.Given as goal

abbrev pub invariant-loop-index : goal.invariant-loop-index
invariant-loop-index l = l.order.items ++ range_with_len l.index (l.count - l.index) ≡ range_with_len 0 l.count
