use Rattle.dbc_keep.proofs.Common.{◌≡◌, drop, refl, sym, ap, ◌∙◌, Lexed, starts, tokens_at}
use Rattle.dbc_keep.specs.Finding.{has_text}
use Rattle.dbc_keep.proofs.Saying.{no_definition, no_signal, signal_named, definition_text, signal_text, spn_text}
use Rattle.dbc_keep.proofs.said.defines_spn.Goals as goal

pub returns-then-not-has : goal.returns-then-not-has
returns-then-not-has c = rw (sym c.has.ensures ∙ c.if-not-has.true) refl

pub returns-then-not-is_next : goal.returns-then-not-is_next
returns-then-not-is_next c =
    let source = c.args.source.now in
    let tokens = tokens_at source c.args.one.at in
    let all : c.at-lexer.result.tokens ≡ tokens = ap (λ (l : Lexed). l.tokens) c.at-lexer.ensures in
    let word = ap (starts (has_text definition_text)) (sym all) ∙ sym c.is_next.ensures.is ∙ c.if-not-is_next.true in
    sym (no_definition source c.args.one tokens refl (sym c.has.ensures ∙ c.if-not-has.false) word)

pub returns-then-not-is_next-2 : goal.returns-then-not-is_next-2
returns-then-not-is_next-2 c =
    let source = c.args.source.now in
    let tokens = tokens_at source c.args.one.at in
    let all : c.at-lexer.result.tokens ≡ tokens = ap (λ (l : Lexed). l.tokens) c.at-lexer.ensures in
    let word = ap (starts (has_text definition_text)) (sym all) ∙ sym c.is_next.ensures.is ∙ c.if-not-is_next.false in
    let after : c.is_next.new.lexer.tokens ≡ drop 1 tokens = c.is_next.ensures.rest ∙ ap (drop 1) all in
    let object = ap (starts (has_text signal_text)) (sym after) ∙ sym c.is_next-2.ensures.is
    ∙ c.if-not-is_next-2.true in
    sym (no_signal source c.args.one tokens refl (sym c.has.ensures ∙ c.if-not-has.false) word object)

pub returns : goal.returns
returns c =
    let source = c.args.source.now in
    let tokens = tokens_at source c.args.one.at in
    let all : c.at-lexer.result.tokens ≡ tokens = ap (λ (l : Lexed). l.tokens) c.at-lexer.ensures in
    let word = ap (starts (has_text definition_text)) (sym all) ∙ sym c.is_next.ensures.is ∙ c.if-not-is_next.false in
    let after : c.is_next.new.lexer.tokens ≡ drop 1 tokens = c.is_next.ensures.rest ∙ ap (drop 1) all in
    let object = ap (starts (has_text signal_text)) (sym after) ∙ sym c.is_next-2.ensures.is
    ∙ c.if-not-is_next-2.false in
    let rest = c.is_next-2.ensures.rest ∙ ap (drop 1) after in
    c.is_next-3.ensures.is ∙ ap (starts (has_text spn_text)) rest
    ∙ sym (signal_named source c.args.one tokens refl (sym c.has.ensures ∙ c.if-not-has.false) word object)
