use Rattle.std.proofs.Common.{sym, None, Some}
use Rattle.office_script.proofs.FieldLaws.{no_field, value_read}
use Rattle.office_script.proofs.fields.read_field.Goals as goal

pub returns-in_default : goal.returns-in_default
returns-in_default c = sym (no_field c.args.word.now c.in_default.ensures.parts)

pub returns-in_default-2 : goal.returns-in_default-2
returns-in_default-2 c =
    value_read c.args.word.now c.in-Some.name.now c.in-Some.written.now None c.in-Some.ensures.parts.0
    c.in-Some.ensures.parts.1 (rw c.in_default-2.is at c.in_ok-value.ensures.value)

pub returns : goal.returns
returns c =
    value_read c.args.word.now c.in-Some.name.now c.in-Some.written.now (Some c.in-Some-2.value.items)
    c.in-Some.ensures.parts.0 c.in-Some.ensures.parts.1 (rw c.in-Some-2.is at c.in_ok-value.ensures.value)
