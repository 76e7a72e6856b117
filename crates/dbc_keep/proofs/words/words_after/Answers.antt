use Rattle.dbc_keep.proofs.Common.{◌≡◌, List, map, drop, ap, subst, ◌∙◌, Lexed, Token, to_mark, tokens_at}
use Rattle.std.specs.Prelude.{IfOk}
use Rattle.dbc_keep.specs.Staying.{all_seen, token_word}
use Rattle.dbc_keep.proofs.words.words_after.Goals as goal

pub returns : goal.returns
returns c =
    let after : c.skip.new.lexer.tokens ≡ drop 1 (tokens_at c.args.source.now c.args.at) =
    c.skip.ensures ∙ ap (λ (l : Lexed). drop 1 l.tokens) c.at-lexer.ensures in
    subst (λ (ts : List Token). IfOk c.words_to_mark.result
    (λ words. all_seen words.items ≡ map token_word (to_mark ts))) after c.words_to_mark.ensures
