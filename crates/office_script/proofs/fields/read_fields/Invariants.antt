use Rattle.std.proofs.Common.{◌≡◌, ◌++◌, length}
use Rattle.std.specs.Option.{option_map}
use Rattle.office_script.specs.Words.{words_after}
use Rattle.office_script.specs.Fields.{fields_of}
use Rattle.office_fields.specs.Given.{named_values}
use Rattle.office_script.proofs.fields.read_fields.Given as goal

-- the fields so far, and those of the words that are left
abbrev pub invariant-loop-left : goal.invariant-loop-left
invariant-loop-left l = fields_of (words_after l.fn.rest) ≡ option_map (λ more. named_values l.list.items ++ more)
    (fields_of (words_after l.left))

abbrev pub decreases-loop-left : goal.decreases-loop-left
decreases-loop-left l = length (words_after l.left)
