use Rattle.dbc_keep.proofs.Common.{◌≡◌, drop, refl, sym, ap, ◌∙◌, Lexed, starts, tokens_at}
use Rattle.dbc_keep.specs.Finding.{has_text}
use Rattle.dbc_keep.proofs.Saying.{no_default, default_named, default_text, spn_text}
use Rattle.dbc_keep.proofs.said.defaults_spn.Goals as goal

pub returns-then-not-has : goal.returns-then-not-has
returns-then-not-has c = rw (sym c.has.ensures ∙ c.if-not-has.true) refl

pub returns-then-not-is_next : goal.returns-then-not-is_next
returns-then-not-is_next c =
    let source = c.args.source.now in
    let tokens = tokens_at source c.args.one.at in
    let all : c.at-lexer.result.tokens ≡ tokens = ap (λ (l : Lexed). l.tokens) c.at-lexer.ensures in
    let word = ap (starts (has_text default_text)) (sym all) ∙ sym c.is_next.ensures.is ∙ c.if-not-is_next.true in
    sym (no_default source c.args.one tokens refl (sym c.has.ensures ∙ c.if-not-has.false) word)

pub returns : goal.returns
returns c =
    let source = c.args.source.now in
    let tokens = tokens_at source c.args.one.at in
    let all : c.at-lexer.result.tokens ≡ tokens = ap (λ (l : Lexed). l.tokens) c.at-lexer.ensures in
    let word = ap (starts (has_text default_text)) (sym all) ∙ sym c.is_next.ensures.is ∙ c.if-not-is_next.false in
    let after : c.is_next.new.lexer.tokens ≡ drop 1 tokens = c.is_next.ensures.rest ∙ ap (drop 1) all in
    c.is_next-2.ensures.is ∙ ap (starts (has_text spn_text)) after
    ∙ sym (default_named source c.args.one tokens refl (sym c.has.ensures ∙ c.if-not-has.false) word)
