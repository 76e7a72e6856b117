use Rattle.std.proofs.Common.{◌≡◌, drop}
use Rattle.office_fields.specs.Given.{named_values}
use Rattle.office_advice.specs.Cause.{value_wrong}
use Rattle.office_advice.proofs.values.value_wrong.Given as goal

-- the values before are right
abbrev pub invariant-loop-index : goal.invariant-loop-index
invariant-loop-index l =
    value_wrong l.command (named_values l.values) 0 (named_values l.values)
    ≡ value_wrong l.command (named_values l.values) l.index (named_values (drop l.index l.values))
