use Rattle.std.proofs.Common.{◌<◌, length, sym, arith}
use Rattle.dbc_lex.proofs.Exponents.{no_exponent, no_exponent_at_end, exponent_without_digits, exponent_with_digits}
use Rattle.dbc_lex.proofs.spelling.exponent_end.Goals as goal

pub returns-then-at-source-clause-is : goal.returns-then-at-source-clause-is
returns-then-at-source-clause-is c = no_exponent_at_end c.args.source.now c.args.at c.if-at-source.true

pub returns-then-not-is_letter_e-clause-is : goal.returns-then-not-is_letter_e-clause-is
returns-then-not-is_letter_e-clause-is c =
    no_exponent c.args.source.now c.args.at (omega (arith, c.requires, c.if-at-source.false))
    (sym c.if-not-is_letter_e.ensures)

pub returns-then-end-digits-clause-is : goal.returns-then-end-digits-clause-is
returns-then-end-digits-clause-is c =
    let there : c.args.at < length c.args.source.now = omega (arith, c.requires, c.if-at-source.false) in
    let sign = c.sign_end-digits in
    exponent_without_digits c.args.source.now c.args.at sign.result c.digits_end-end.result there
    (sym c.if-not-is_letter_e.ensures) sign.ensures.is sign.ensures.within.0 c.digits_end-end.ensures.is
    c.if-end-digits.true

pub returns-else-end-digits-clause-is : goal.returns-else-end-digits-clause-is
returns-else-end-digits-clause-is c =
    let there : c.args.at < length c.args.source.now = omega (arith, c.requires, c.if-at-source.false) in
    let sign = c.sign_end-digits in
    exponent_with_digits c.args.source.now c.args.at sign.result c.digits_end-end.result there
    (sym c.if-not-is_letter_e.ensures) sign.ensures.is sign.ensures.within.0 c.digits_end-end.ensures.is
    c.if-end-digits.false
