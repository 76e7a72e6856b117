use Rattle.office_script.proofs.EscapeLaws.{escape_read}
use Rattle.office_script.proofs.escapes.escaped_byte.Goals as goal

pub returns-clause-first : goal.returns-clause-first
returns-clause-first c =
    escape_read c.args.after.now c.in_ok-high.others.now c.in_ok-low.rest.now c.in_ok-high.high.now c.in_ok-low.low.now
    c.in_ok-hexadecimal_byte.field-0 c.in_ok-high.ensures.cases.0 c.in_ok-low.ensures.cases.0
    c.in_ok-hexadecimal_byte.ensures
