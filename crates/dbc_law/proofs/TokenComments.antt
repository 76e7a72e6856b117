-- The lines of comments are legible.
use Rattle.dbc_law.proofs.Common.{ℕ, List, [], ◌∷◌, IsText, Piece, message_comments, node_comment, IsMessage, IsNode}
use Rattle.dbc_law.proofs.Common.{IsSignal, number_of, Message, Node, Signal}
use Rattle.dbc_words.specs.declared.keyword.Keyword.TheVariants as keyword
use Rattle.dbc_grammar.specs.Canon.{comment_lines, signal_pieces}
use Rattle.dbc_law.proofs.MessageNumbers.{number_small}
use Rattle.dbc_law.proofs.TokenLegible.{CanFollow, follow_append, no_pieces}
use Rattle.dbc_law.proofs.TokenLines.{AreLegibleLines, ◌also◌, lines_of_each, no_lines, one_line}
use Rattle.dbc_law.proofs.TokenMessages.{signal_follows}
use Rattle.dbc_law.proofs.TokenPieces.{end_follows, keyword_follows, keyword_line, name_follows, number_follows}
use Rattle.dbc_law.proofs.TokenPieces.{text_follows}

pub comment_legible : (of_what : List Piece) (text : List ℕ) → CanFollow of_what → IsText text
    → AreLegibleLines (comment_lines of_what text)
comment_legible of_what [] before h = no_lines
comment_legible of_what (b ∷ bs) before h =
    one_line _ (keyword_line keyword.Comment _ (follow_append before (text_follows (b ∷ bs) _ h end_follows.legible)))

pub node_comment_legible : (n : Node) → IsNode n → AreLegibleLines (node_comment n)
node_comment_legible n h =
    comment_legible _ n.comment (keyword_follows keyword.Nodes _ (name_follows n.name [] h.named no_pieces)) h.comment

pub message_comments_legible : (m : Message) → IsMessage m → AreLegibleLines (message_comments m)
message_comments_legible m h =
    let own = comment_legible _ m.comment
    (keyword_follows keyword.Message _ (number_follows (number_of m) [] (number_small m h) no_pieces))
    h.comment in
    own also lines_of_each IsSignal (λ (s : Signal). comment_lines (signal_pieces m s) s.comment)
    (λ s k. comment_legible (signal_pieces m s) s.comment (signal_follows m s h k) k.comment) m.signals h.signals
