use Rattle.desk_call.proofs.Common.{◌≡◌, ◌++◌, length, option_map, view, named_values}
use Rattle.desk_call.specs.Body.{given_in}
use Rattle.desk_call.proofs.members.given_in.Given as goal

-- the values so far, and those of the fields that are left
abbrev pub invariant-loop-left : goal.invariant-loop-left
invariant-loop-left l =
    given_in l.fields (view l.value)
    ≡ option_map (λ more. named_values l.list.items ++ more) (given_in l.left (view l.value))

abbrev pub decreases-loop-left : goal.decreases-loop-left
decreases-loop-left l = length l.left
