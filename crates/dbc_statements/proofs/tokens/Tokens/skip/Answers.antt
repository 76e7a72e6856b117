use Rattle.dbc_statements.proofs.Common.{◌∙◌, ap, drop, token_of}
use Rattle.dbc_statements.proofs.FirstToken.{after_first, are_tokens, tokens_are}
use Rattle.dbc_statements.proofs.tokens.Tokens.skip.Goals as goal

pub invariant_of-self : goal.invariant_of-self
invariant_of-self c =
    let at = c.self.inside in
    let gives = rw c.in-Ok-Some.field-0-is at c.in-Ok-Some.ensures in
    are_tokens at.source.now at.end c.self.invariant.within c.at.result c.at.ensures (token_of c.in-Ok-Some.token)
    c.next_token.new.self.tokens gives.0

pub returns-in-Ok-Some : goal.returns-in-Ok-Some
returns-in-Ok-Some c =
    let at = c.self.inside in
    let gives = rw c.in-Ok-Some.field-0-is at c.in-Ok-Some.ensures in
    tokens_are at.source.now at.end c.self.invariant.within c.at.result c.at.ensures (token_of c.in-Ok-Some.token)
    c.next_token.new.self.tokens gives.0
    ∙ after_first at.source.now at.kind at.start at.end c.self.invariant.ends ∙ ap (drop 1) c.self.view_is
