use Rattle.page_messages.proofs.Common.{take}
use Rattle.page_messages.specs.Layouts.{Adds, AreFor, IsValueLayout}
use Rattle.page_messages.proofs.layouts.put_value_layouts.Given as goal

abbrev pub invariant-loop-one : goal.invariant-loop-one
invariant-loop-one l =
    Adds (AreFor (IsValueLayout l.message l.signals l.multiplexor.name) (take l.one-index l.values)) l.page l.initial.page
