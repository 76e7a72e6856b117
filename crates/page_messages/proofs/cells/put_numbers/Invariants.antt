use Rattle.page_messages.proofs.Common.{take, flat_map, Becomes, adding}
use Rattle.page_messages.specs.Layouts.{clash_number}
use Rattle.page_messages.proofs.cells.put_numbers.Given as goal

abbrev pub invariant-loop-bit : goal.invariant-loop-bit
invariant-loop-bit l = Becomes l.page (adding (flat_map clash_number (take l.bit-index l.held)) l.initial.page)
