use Rattle.dbc_lint.proofs.Common.{rules, FitsSigned, w128}
use Rattle.dbc_lint.proofs.LongNumbers.{as_physical}
use Rattle.dbc_lint.proofs.range.physical.Goals as goal

pub returns : goal.returns
returns c =
    let factor : FitsSigned w128 c.args.numbers.factor = search rules in
    as_physical c.args.numbers c.args.raw c.in_ok-product.product c.requires c.ranges.raw factor
    c.in_ok-product.ensures.value
