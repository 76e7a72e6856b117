use Rattle.dbc_lint.proofs.Common.{rules, FitsSigned, w16}
use Rattle.dbc_lint.specs.Numbers.{common_exponent}
use Rattle.dbc_lint.proofs.LongNumbers.{as_scaled}
use Rattle.dbc_lint.proofs.range.scaled_numbers.Goals as goal

pub returns-clause-value : goal.returns-clause-value
returns-clause-value c =
    let fits : FitsSigned w16 c.common_exponent-exponent.result = search rules in
    as_scaled c.args.signal.now (common_exponent c.args.signal.now) c.common_exponent-exponent.result c.written.result
    c.written-2.result c.written-3.result c.written-4.result c.scaled_of.result fits
    c.common_exponent-exponent.ensures c.written.ensures.value c.written-2.ensures.value c.written-3.ensures.value
    c.written-4.ensures.value c.scaled_of.ensures.value
