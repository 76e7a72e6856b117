use Rattle.page_changes.proofs.Common.{◌≡◌, ◌++◌, drop, map, flat_map}
use Rattle.page_changes.specs.Act.{losses_of}
use Rattle.page_changes.specs.Changes.{list_of}
use Rattle.page_changes.proofs.act.all_losses.Given as goal

abbrev pub invariant-loop-message : goal.invariant-loop-message
invariant-loop-message l =
    l.losses.items ++ flat_map (losses_of l.before) (map list_of (drop l.message-index l.messages))
    ≡ flat_map (losses_of l.before) (map list_of l.messages)
