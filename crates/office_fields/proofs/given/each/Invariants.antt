use Rattle.std.proofs.Common.{◌≡◌, ◌++◌, drop}
use Rattle.std.specs.Option.{option_map}
use Rattle.office_fields.specs.Field.{row_of}
use Rattle.office_fields.specs.Given.{named_values, read_each, values_of}
use Rattle.office_fields.proofs.given.each.Given as goal

-- the values read so far, and those that are given from here on
abbrev pub invariant-loop-given : goal.invariant-loop-given
invariant-loop-given g l =
    read_each g.T.FieldValue.read (values_of (named_values l.values) (row_of l.field).name)
    ≡ option_map (λ more. l.items.items ++ more)
    (read_each g.T.FieldValue.read (values_of (named_values (drop l.given-index l.values)) (row_of l.field).name))
