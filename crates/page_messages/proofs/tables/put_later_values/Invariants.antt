use Rattle.page_messages.proofs.Common.{take, Becomes, adding}
use Rattle.page_messages.specs.Tables.{later_values}
use Rattle.page_messages.proofs.tables.put_later_values.Given as goal

abbrev pub invariant-loop-value : goal.invariant-loop-value
invariant-loop-value l = Becomes l.page (adding (later_values (take l.value-index l.values)) l.initial.page)
