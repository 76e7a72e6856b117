use Rattle.dbc_read.proofs.Common.{◌++◌, Box, Global, List, Option, drop, map, message_of}
use Rattle.dbc_read.specs.Orders.{AreOrdersOf}
use Rattle.dbc_read.specs.declared.orders.NameOrder.{NameOrder}
use Rattle.dbc_read.proofs.orders.orders_of.Given as goal

abbrev pub invariant-loop-line : goal.invariant-loop-line
invariant-loop-line l = (more : List (Option (Box NameOrder Global)))
    → AreOrdersOf (map message_of (drop l.line-index l.lines)) more
    → AreOrdersOf (map message_of l.lines) (l.orders.items ++ more)
