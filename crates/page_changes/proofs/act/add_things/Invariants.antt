use Rattle.page_changes.proofs.Common.{◌≡◌, ◌++◌, length, flat_map}
use Rattle.page_changes.specs.Act.{is_one_thing, losses_at, things_of}
use Rattle.page_changes.specs.Parts.{parts_by}
use Rattle.page_changes.proofs.act.add_things.Given as goal

abbrev pub invariant-loop-first : goal.invariant-loop-first
invariant-loop-first l =
    l.losses.items ++ flat_map (losses_at l.old) (parts_by is_one_thing l.rest)
    ≡ l.initial.losses.items ++ flat_map (losses_at l.old) (things_of l.differences)

abbrev pub decreases-loop-first : goal.decreases-loop-first
decreases-loop-first l = length l.rest
