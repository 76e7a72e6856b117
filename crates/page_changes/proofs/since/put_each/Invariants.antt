use Rattle.page_changes.proofs.Common.{map, take, flat_map, Becomes, adding}
use Rattle.page_changes.specs.Changes.{list_of}
use Rattle.page_changes.specs.Since.{message_item}
use Rattle.page_changes.proofs.since.put_each.Given as goal

abbrev pub invariant-loop-message : goal.invariant-loop-message
invariant-loop-message l =
    Becomes l.page (adding (flat_map message_item (map list_of (take l.message-index l.messages))) l.initial.page)
