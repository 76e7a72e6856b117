use Rattle.std.proofs.Common.{◌≡◌, drop}
use Rattle.office_fields.specs.Given.{named_values, values_of}
use Rattle.office_fields.proofs.given.first_of.Given as goal

-- what is given under the name is given from here on
abbrev pub invariant-loop-index : goal.invariant-loop-index
invariant-loop-index l = values_of (named_values l.values) l.name ≡ values_of (named_values (drop l.index l.values))
    l.name
