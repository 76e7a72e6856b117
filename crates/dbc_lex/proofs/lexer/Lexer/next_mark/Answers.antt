use Rattle.std.proofs.Common.{rules, ap, ◌+◌, slice_range, arith}
use Rattle.dbc_grammar.specs.Lexing.{Lexed}
use Rattle.dbc_grammar.specs.declared.token.TokenKind.TheVariants.{Mark}
use Rattle.dbc_lex.proofs.Ends.{mark_token, mark_text}
use Rattle.dbc_lex.proofs.Reading.{token_read}
use Rattle.dbc_lex.proofs.lexer.Lexer.next_mark.Goals as goal

pub returns-in-Some-clause-some : goal.returns-in-Some-clause-some
returns-in-Some-clause-some c =
    let source = c.self.inside.source.now in
    let start = c.in-Some.start in
    let first = mark_token source start c.in-Some.ensures.within c.in-Some.ensures.kind in
    let e = token_read source c.self.inside.at start c.in-Some.ensures.is
    (record { kind = Mark; start = start; end = start + 1; text = slice_range source start (start + 1) })
    (omega (arith, c.in-Some.ensures.is)) first in
    rw (← c.self.view_is) (ap (λ (l : Lexed). l.tokens) e, ap (λ (l : Lexed). l.fault) e)

pub returns-in-Some-clause-mark : goal.returns-in-Some-clause-mark
returns-in-Some-clause-mark c =
    let text = mark_text c.self.inside.source.now c.in-Some.start c.args.mark c.in-Some.ensures.within
    c.in-Some.ensures.mark in
    rw text (search rules)
