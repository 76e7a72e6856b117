use Rattle.desk_call.proofs.Common.{◌≡◌, ◌++◌, length, option_map, items_view, named_values}
use Rattle.desk_call.specs.Body.{each_given}
use Rattle.desk_call.proofs.members.each_given.Given as goal

-- the values so far, and those of the items that are left
abbrev pub invariant-loop-left : goal.invariant-loop-left
invariant-loop-left l =
    each_given l.field (items_view l.items)
    ≡ option_map (λ more. named_values l.list.items ++ more) (each_given l.field (items_view l.left))

abbrev pub decreases-loop-left : goal.decreases-loop-left
decreases-loop-left l = length l.left
