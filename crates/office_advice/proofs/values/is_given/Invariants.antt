use Rattle.std.proofs.Common.{◌≡◌, drop}
use Rattle.office_fields.specs.Given.{named_values}
use Rattle.office_advice.specs.Cause.{is_given}
use Rattle.office_advice.proofs.values.is_given.Given as goal

-- nothing is given under the name before
abbrev pub invariant-loop-given : goal.invariant-loop-given
invariant-loop-given l = is_given (named_values l.values) l.name ≡ is_given (named_values (drop l.given-index l.values))
    l.name
