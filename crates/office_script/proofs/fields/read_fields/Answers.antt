use Rattle.std.proofs.Common.{rules, ◌≡◌, None, Some}
use Rattle.office_script.specs.Words.{words_after}
use Rattle.office_script.specs.Fields.{fields_of}
use Rattle.office_fields.specs.Given.{named_values}
use Rattle.office_script.proofs.FieldLaws.{fields_law}
use Rattle.office_script.proofs.fields.read_fields.Goals as goal

pub returns-in_default-2-clause-meaning : goal.returns-in_default-2-clause-meaning
returns-in_default-2-clause-meaning c =
    let none : None ≡ fields_of (words_after c.args.rest) = search rules in
    fields_law (words_after c.args.rest) None none

pub returns-clause-meaning : goal.returns-clause-meaning
returns-clause-meaning c =
    let all : Some (named_values c.loop-left.list.items) ≡ fields_of (words_after c.args.rest) = search rules in
    fields_law (words_after c.args.rest) (Some (named_values c.loop-left.list.items)) all
