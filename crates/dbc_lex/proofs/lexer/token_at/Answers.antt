use Rattle.std.proofs.Common.{◌<◌, length, refl, sym, ◌∙◌, arith}
use Rattle.dbc_grammar.specs.Lexing.{StrayByte, UnclosedText}
use Rattle.dbc_lex.proofs.Ends.{kind_there, stray_here, there_if_kind, token_here, unclosed_here}
use Rattle.dbc_lex.proofs.lexer.token_at.Goals as goal

pub returns-in-None-2-clause-first : goal.returns-in-None-2-clause-first
returns-in-None-2-clause-first c =
    let source = c.args.source.now in
    let there : c.args.start < length source = omega arith in (
      StrayByte c.args.start,
      stray_here source c.args.start there (sym (kind_there source c.args.start there) ∙ sym c.requires.kind
          ∙ c.in-None-2.is),
      refl,
    )

pub returns-in-None-word_end-clause-first : goal.returns-in-None-word_end-clause-first
returns-in-None-word_end-clause-first c =
    let source = c.args.source.now in
    let there = there_if_kind source c.args.start c.in-Some.kind (sym c.in-Some.is ∙ c.requires.kind) in (
      UnclosedText c.args.start,
      unclosed_here source c.args.start there c.in-Some.kind
          (sym (kind_there source c.args.start there) ∙ sym c.requires.kind ∙ c.in-Some.is)
          (sym c.in-None-word_end.is ∙ c.word_end.ensures.is),
      refl,
    )

pub returns-in-Some-word_end-clause-first : goal.returns-in-Some-word_end-clause-first
returns-in-Some-word_end-clause-first c =
    let source = c.args.source.now in
    let there = there_if_kind source c.args.start c.in-Some.kind (sym c.in-Some.is ∙ c.requires.kind) in
    let kind = sym (kind_there source c.args.start there) ∙ sym c.requires.kind ∙ c.in-Some.is in
    token_here source c.args.start there c.in-Some.kind c.in-Some-word_end.end kind
    (sym c.word_end.ensures.is ∙ c.in-Some-word_end.is)
