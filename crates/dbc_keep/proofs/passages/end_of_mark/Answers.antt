use Rattle.dbc_keep.proofs.Common.{sym, ap, ◌∙◌, Lexed, token_of}
use Rattle.dbc_keep.proofs.Ending.{fewer, mark_go, mark_none, mark_stop}
use Rattle.dbc_keep.proofs.passages.end_of_mark.Goals as goal

pub tokens-smaller : goal.tokens-smaller
tokens-smaller c =
    let gives = rw c.in-Ok-Some.field-0-is at c.in-Ok-Some.ensures in
    fewer (token_of c.in-Ok-Some.token) c.tokens.lexer.tokens c.next_token.new.self.tokens gives.0

pub tokens-preserved : goal.tokens-preserved
tokens-preserved c =
    let gives = rw c.in-Ok-Some.field-0-is at c.in-Ok-Some.ensures in
    sym (mark_go c.tokens.end (token_of c.in-Ok-Some.token) c.tokens.lexer.tokens c.next_token.new.self.tokens gives.0
    (sym c.is_open.ensures ∙ c.if-not-is_open.false)) ∙ c.tokens.invariant

pub returns-then-not-is_open : goal.returns-then-not-is_open
returns-then-not-is_open c =
    let gives = rw c.in-Ok-Some.field-0-is at c.in-Ok-Some.ensures in
    sym (mark_stop c.tokens.end (token_of c.in-Ok-Some.token) c.tokens.lexer.tokens c.next_token.new.self.tokens gives.0
    (sym c.is_open.ensures ∙ c.if-not-is_open.true)) ∙ c.tokens.invariant

pub returns-in-Ok-None : goal.returns-in-Ok-None
returns-in-Ok-None c =
    let gives = rw c.in-Ok-None.field-0-is at c.in-Ok-None.ensures in
    sym (mark_none c.tokens.end c.tokens.lexer.tokens (ap (λ (l : Lexed). l.tokens) gives.0)) ∙ c.tokens.invariant

pub returns-in-Err : goal.returns-in-Err
returns-in-Err c =
    let gives = c.in-Err.ensures in
    sym (mark_none c.tokens.end c.tokens.lexer.tokens (ap (λ (l : Lexed). l.tokens) gives.1)) ∙ c.tokens.invariant
