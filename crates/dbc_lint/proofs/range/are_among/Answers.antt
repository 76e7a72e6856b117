use Rattle.dbc_lint.proofs.Common.{rules, FitsSigned, w128}
use Rattle.dbc_lint.proofs.LongNumbers.{second_among}
use Rattle.dbc_lint.proofs.range.are_among.Goals as goal

pub returns-then-is_among : goal.returns-then-is_among
returns-then-is_among c =
    let low : FitsSigned w128 c.args.numbers.minimum = search rules in
    let high : FitsSigned w128 c.args.numbers.maximum = search rules in
    second_among c.args.numbers c.args.a c.args.b c.is_among.result c.is_among-then-is_among.result c.ranges.a
    c.ranges.b low high c.is_among.ensures c.if-is_among.true c.is_among-then-is_among.ensures
