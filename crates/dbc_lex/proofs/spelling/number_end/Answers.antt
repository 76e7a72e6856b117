use Rattle.std.proofs.Common.{arith}
use Rattle.dbc_lex.proofs.Ends.{no_tail, no_tail_at_end, number_end_is}
use Rattle.dbc_lex.proofs.spelling.number_end.Goals as goal

pub returns-then-whole-source-clause-is : goal.returns-then-whole-source-clause-is
returns-then-whole-source-clause-is c =
    let whole = c.digits_end-whole.result in
    number_end_is c.args.source.now c.args.start c.requires.there whole whole c.requires.kind
    c.digits_end-whole.ensures.is (no_tail_at_end c.args.source.now whole c.if-whole-source.true)

pub returns-then-begins_tail-clause-is : goal.returns-then-begins_tail-clause-is
returns-then-begins_tail-clause-is c =
    number_end_is c.args.source.now c.args.start c.requires.there c.digits_end-whole.result c.tail_end.result
    c.requires.kind c.digits_end-whole.ensures.is c.tail_end.ensures.is

pub returns-else-begins_tail-clause-is : goal.returns-else-begins_tail-clause-is
returns-else-begins_tail-clause-is c =
    let whole = c.digits_end-whole.result in
    number_end_is c.args.source.now c.args.start c.requires.there whole whole c.requires.kind
    c.digits_end-whole.ensures.is
    (no_tail c.args.source.now whole (omega (arith, c.digits_end-whole.ensures.within, c.if-whole-source.false))
    c.if-begins_tail.ensures)
