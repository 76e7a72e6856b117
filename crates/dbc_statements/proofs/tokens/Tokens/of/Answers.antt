use Rattle.dbc_statements.proofs.Common.{arith, token_of}
use Rattle.dbc_statements.proofs.FirstToken.{are_tokens, tokens_are}
use Rattle.dbc_statements.proofs.tokens.Tokens.of.Goals as goal

pub invariant_of-t-7 : goal.invariant_of-t-7
invariant_of-t-7 c =
    let gives = rw c.in-Ok-Some.field-0-is at c.in-Ok-Some.ensures in
    are_tokens c.args.source.now 0 (omega arith) c.at.result c.at.ensures (token_of c.in-Ok-Some.token)
    c.next_token.new.self.tokens gives.0

pub returns-in-Ok-Some : goal.returns-in-Ok-Some
returns-in-Ok-Some c =
    let gives = rw c.in-Ok-Some.field-0-is at c.in-Ok-Some.ensures in
    tokens_are c.args.source.now 0 (omega arith) c.at.result c.at.ensures (token_of c.in-Ok-Some.token)
    c.next_token.new.self.tokens gives.0
