use Rattle.desk_call.proofs.Common.{◌≡◌, ◌++◌, length, option_map, items_view}
use Rattle.desk_call.specs.Bundle.{parts_of_items}
use Rattle.desk_call.proofs.bundle.parts_of_items.Given as goal

-- the parts so far, and those of the items that are left
abbrev pub invariant-loop-left : goal.invariant-loop-left
invariant-loop-left l =
    parts_of_items (items_view l.items) ≡ option_map (λ more. l.parts ++ more) (parts_of_items (items_view l.left))

abbrev pub decreases-loop-left : goal.decreases-loop-left
decreases-loop-left l = length l.left
