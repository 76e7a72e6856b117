use Rattle.page_messages.proofs.Common.{map, take, Becomes, adding}
use Rattle.page_messages.specs.Remarks.{later_names}
use Rattle.page_messages.proofs.remarks.put_later_names.Given as goal

abbrev pub invariant-loop-name : goal.invariant-loop-name
invariant-loop-name l =
    Becomes l.page (adding (later_names (map (λ name. name.items) (take l.name-index l.names))) l.initial.page)
