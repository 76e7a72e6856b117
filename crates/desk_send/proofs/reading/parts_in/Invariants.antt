use Rattle.desk_send.proofs.Common.{◌≡◌, ◌++◌, length, option_map, items_view}
use Rattle.desk_send.specs.Answer.{parts_in}
use Rattle.desk_send.proofs.reading.parts_in.Given as goal

-- the parts so far, and those of the items that are left
abbrev pub invariant-loop-left : goal.invariant-loop-left
invariant-loop-left l =
    parts_in (items_view l.items) ≡ option_map (λ more. l.parts ++ more) (parts_in (items_view l.left))

abbrev pub decreases-loop-left : goal.decreases-loop-left
decreases-loop-left l = length l.left
