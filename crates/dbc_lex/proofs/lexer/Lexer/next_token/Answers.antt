use Rattle.std.proofs.Common.{refl, sym, ap, ◌∙◌, arith}
use Rattle.dbc_grammar.specs.Lexing.{Lexed}
use Rattle.dbc_lex.specs.Token.{token_of}
use Rattle.dbc_lex.proofs.Reading.{token_read, none_read, fault_read}
use Rattle.dbc_lex.proofs.lexer.Lexer.next_token.Goals as goal

pub returns-in-Ok-Some : goal.returns-in-Ok-Some
returns-in-Ok-Some c =
    let first = rw c.in-Ok-Some.field-0-is at c.in-Ok-Some.ensures.first in
    let within = rw c.in-Ok-Some.field-0-is at c.in-Ok-Some.ensures.within in
    let e = token_read c.self.inside.source.now c.self.inside.at c.first_after_gap-start.result.0
    c.first_after_gap-start.ensures.is (token_of c.in-Ok-Some.token)
    (omega (arith, within, c.first_after_gap-start.ensures.is)) first in
    rw (← c.self.view_is) (ap (λ (l : Lexed). l.tokens) e, ap (λ (l : Lexed). l.fault) e)

pub returns-in-Ok-None : goal.returns-in-Ok-None
returns-in-Ok-None c =
    let first = rw c.in-Ok-None.field-0-is at c.in-Ok-None.ensures.first in
    let e = none_read c.self.inside.source.now c.self.inside.at c.first_after_gap-start.result.0
    c.first_after_gap-start.ensures.is first in
    (sym c.self.view_is ∙ e, refl)

pub returns-in-Err : goal.returns-in-Err
returns-in-Err c =
    let (cause, first, is) = c.in-Err.ensures.first in
    let e = fault_read c.self.inside.source.now c.self.inside.at c.first_after_gap-start.result.0
    c.first_after_gap-start.ensures.is cause first in
    (cause, sym c.self.view_is ∙ e, is, refl)
