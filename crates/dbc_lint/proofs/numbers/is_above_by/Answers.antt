use Rattle.dbc_lint.proofs.LongNumbers.{first_passes}
use Rattle.dbc_lint.proofs.numbers.is_above_by.Goals as goal

pub returns-in-None-default : goal.returns-in-None-default
returns-in-None-default c =
    first_passes c.args.a.now c.args.b.now c.args.x c.mantissa-first.result c.mantissa-first.ensures.decimal
    c.mantissa-second.ensures.decimal c.in-None-default.is-0 c.requires.first c.mantissa-first.ensures.value
