use Rattle.dbc_lex.proofs.Ends.{tail_is}
use Rattle.dbc_lex.proofs.spelling.tail_end.Goals as goal

pub returns-clause-is : goal.returns-clause-is
returns-clause-is c =
    tail_is c.args.source.now c.args.whole c.fraction_end.result c.exponent_end.result c.fraction_end.ensures.is
    c.exponent_end.ensures.is
