use Rattle.std.proofs.Common.{◌≡◌, ◌+◌, drop}
use Rattle.office_fields.specs.Given.{named_values}
use Rattle.office_advice.specs.Cause.{first_field, index_of}
use Rattle.office_advice.proofs.values.index_of.Given as goal

-- the values before have other names
abbrev pub invariant-loop-index : goal.invariant-loop-index
invariant-loop-index l =
    index_of l.command l.name (first_field l.command) (named_values l.values) ≡ index_of l.command l.name
    (l.index + first_field l.command) (named_values (drop l.index l.values))
