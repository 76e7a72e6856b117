use Rattle.std.proofs.Common.{rules}
use Rattle.decimal.proofs.Values.{equal_by_value}
use Rattle.decimal.proofs.number.Decimal.has_value_of.Goals as goal

pub returns-then-mantissa-clause-value : goal.returns-then-mantissa-clause-value
returns-then-mantissa-clause-value c =
    equal_by_value _ c.args.self.now c.args.other.now c.mantissa.ensures.decimal c.mantissa-2.ensures.decimal
    (search rules)

pub returns-else-mantissa-clause-value : goal.returns-else-mantissa-clause-value
returns-else-mantissa-clause-value c =
    equal_by_value _ c.args.self.now c.args.other.now c.mantissa.ensures.decimal c.mantissa-2.ensures.decimal
    (search rules)
