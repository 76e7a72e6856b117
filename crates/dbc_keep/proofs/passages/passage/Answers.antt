use Rattle.dbc_keep.proofs.Common.{◌≡◌, ◌∷◌, [], slice_range, sym, ap, ◌∙◌, Lexed, token_of, tokens_at}
use Rattle.dbc_keep.proofs.Slices.{bytes_there, end_within, nothing_there, start_before_end}
use Rattle.dbc_keep.proofs.passages.passage.Goals as goal

pub between-requires : goal.between-requires
between-requires c =
    let source = c.args.source.now in
    let at = c.args.one.at in
    let t = token_of c.in-Ok-Some.first in
    let ts = c.next_token.new.self.tokens in
    let gives = rw c.in-Ok-Some.field-0-is at c.in-Ok-Some.ensures in
    let first : tokens_at source at ≡ t ∷ ts = ap (λ (l : Lexed). l.tokens) (sym c.at-lexer.ensures) ∙ gives.0 in
    rw c.end_of-end.ensures (record {
      ordered = start_before_end source at c.args.one.keyword t ts first;
      within = end_within source at c.args.one.keyword t ts first;
    })

pub returns-in-Ok-Some : goal.returns-in-Ok-Some
returns-in-Ok-Some c =
    let source = c.args.source.now in
    let at = c.args.one.at in
    let t = token_of c.in-Ok-Some.first in
    let ts = c.next_token.new.self.tokens in
    let gives = rw c.in-Ok-Some.field-0-is at c.in-Ok-Some.ensures in
    let first : tokens_at source at ≡ t ∷ ts = ap (λ (l : Lexed). l.tokens) (sym c.at-lexer.ensures) ∙ gives.0 in
    c.between.ensures ∙ ap (slice_range source t.start) c.end_of-end.ensures
    ∙ bytes_there source at c.args.one.keyword t ts first

pub returns-in-Ok-None : goal.returns-in-Ok-None
returns-in-Ok-None c =
    let source = c.args.source.now in
    let at = c.args.one.at in
    let gives = rw c.in-Ok-None.field-0-is at c.in-Ok-None.ensures in
    let none : tokens_at source at ≡ [] =
    ap (λ (l : Lexed). l.tokens) (sym c.at-lexer.ensures ∙ gives.0) in
    sym (nothing_there source at c.args.one.keyword none)

pub returns-in-Err : goal.returns-in-Err
returns-in-Err c =
    let source = c.args.source.now in
    let at = c.args.one.at in
    let gives = c.in-Err.ensures in
    let none : tokens_at source at ≡ [] =
    ap (λ (l : Lexed). l.tokens) (sym c.at-lexer.ensures ∙ gives.1) in
    sym (nothing_there source at c.args.one.keyword none)
