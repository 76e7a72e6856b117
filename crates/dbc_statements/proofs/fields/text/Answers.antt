use Rattle.dbc_statements.proofs.Common.{◌∙◌, sym, inside_of}
use Rattle.dbc_words.proofs.Texts.{text-Decides}
use Rattle.dbc_statements.proofs.Spelled.{inside_is_text}
use Rattle.dbc_statements.proofs.fields.text.Goals as goal

pub of_kept-requires-clause-keeps : goal.of_kept-requires-clause-keeps
of_kept-requires-clause-keeps c =
    let t = c.in_ok-token.token in
    rw c.inside.ensures (inside_is_text t.kind t.text.now c.in_ok-token.ensures.spelled
    (sym c.is_text.ensures ∙ c.if-not-is_text.false))

pub of_kept-requires-clause-computed : goal.of_kept-requires-clause-computed
of_kept-requires-clause-computed c =
    let t = c.in_ok-token.token in
    let text = inside_is_text t.kind t.text.now c.in_ok-token.ensures.spelled
    (sym c.is_text.ensures ∙ c.if-not-is_text.false) in
    rw c.inside.ensures ((text-Decides (inside_of t.text.now)).1 text)
