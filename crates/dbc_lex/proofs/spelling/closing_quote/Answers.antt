use Rattle.std.proofs.Common.{◌≢◌, false, get_or, drop, rules, arith, eq-eqb}
use Rattle.dbc_grammar.specs.Lexing.{inside_len}
use Rattle.dbc_lex.specs.Offset.{further_by}
use Rattle.dbc_lex.proofs.Insides.{at_quote, at_end, past_backslash, past_other}
use Rattle.dbc_lex.proofs.spelling.closing_quote.Goals as goal

pub returns-in-34-clause-is : goal.returns-in-34-clause-is
returns-in-34-clause-is c =
    at_quote c.args.source.now c.loop-n.n (further_by c.args.at (inside_len false (drop c.args.at c.args.source.now)))
    c.loop-n-test.true (eq-eqb _ 34 c.in-34.is) c.loop-n.invariant

pub loop-n-preserved-in-92 : goal.loop-n-preserved-in-92
loop-n-preserved-in-92 c =
    past_backslash c.args.source.now c.loop-n.n
    (further_by c.args.at (inside_len false (drop c.args.at c.args.source.now))) c.loop-n-test.true c.in-92.is
    c.loop-n.invariant

pub loop-n-preserved-then-byte-gt92 : goal.loop-n-preserved-then-byte-gt92
loop-n-preserved-then-byte-gt92 c =
    let no_quote : get_or c.args.source.now c.loop-n.n 0 ≢ 34 = omega (arith, c.if-byte-gt92.true) in
    let no_backslash : get_or c.args.source.now c.loop-n.n 0 ≢ 92 = omega (arith, c.if-byte-gt92.true) in
    past_other c.args.source.now c.loop-n.n (further_by c.args.at (inside_len false (drop c.args.at c.args.source.now)))
    c.loop-n-test.true no_quote no_backslash c.loop-n.invariant

pub loop-n-preserved : goal.loop-n-preserved
loop-n-preserved c =
    let no_quote : get_or c.args.source.now c.loop-n.n 0 ≢ 34 = omega arith in
    let no_backslash : get_or c.args.source.now c.loop-n.n 0 ≢ 92 = search rules in
    past_other c.args.source.now c.loop-n.n (further_by c.args.at (inside_len false (drop c.args.at c.args.source.now)))
    c.loop-n-test.true no_quote no_backslash c.loop-n.invariant

pub returns-clause-is : goal.returns-clause-is
returns-clause-is c =
    at_end c.args.source.now c.loop-n.n false
    (further_by c.args.at (inside_len false (drop c.args.at c.args.source.now)))
    (omega (arith, c.loop-n-test.false)) c.loop-n.invariant
