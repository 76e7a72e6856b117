use Rattle.desk_send.proofs.Common.{◌≡◌, ◌++◌, length, map, option_map, view}
use Rattle.office_fields.specs.declared.field.FieldKind.TheVariants as kind
use Rattle.desk_send.specs.Json.{data_list, data_of}
use Rattle.desk_send.proofs.members.pair_list.Given as goal

-- the values so far, and those of what is left
abbrev pub invariant-loop-left : goal.invariant-loop-left
invariant-loop-left l =
    data_list (data_of kind.ValueText) l.pairs
    ≡ option_map (λ more. map view l.values.items ++ more) (data_list (data_of kind.ValueText) l.left)

abbrev pub decreases-loop-left : goal.decreases-loop-left
decreases-loop-left l = length l.left
