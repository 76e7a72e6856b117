use Rattle.page_messages.proofs.Common.{take, enumerate_from}
use Rattle.page_messages.specs.Each.{AreCards}
use Rattle.page_messages.specs.Layouts.{Adds}
use Rattle.page_messages.proofs.each.put_each.Given as goal

abbrev pub invariant-loop-index : goal.invariant-loop-index
invariant-loop-index l =
    Adds (AreCards l.subject l.marks (take l.index (enumerate_from 0 l.messages))) l.page l.initial.page
