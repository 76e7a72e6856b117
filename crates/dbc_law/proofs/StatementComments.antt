-- The lines of comments are statements.
use Rattle.dbc_law.proofs.Common.{◌++◌, ℕ, List, [], ◌∷◌, Some, refl, inl, inr, codes, IsMessage, IsSignal, number_of}
use Rattle.dbc_law.proofs.Common.{CommentIs, Content, MessageCommentIs, NodeCommentIs, SignalCommentIs, Token, Message}
use Rattle.dbc_law.proofs.Common.{Node, Signal}
use Rattle.dbc_words.specs.declared.keyword.Keyword.TheVariants as keyword
use Rattle.dbc_grammar.specs.Canon as canon
use Rattle.dbc_grammar.specs.Grammar as grammar
use Rattle.dbc_law.proofs.Contents.{comments, message_comments, node_comments, signal_comments}
use Rattle.dbc_law.proofs.PieceTokens.{line}
use Rattle.dbc_law.proofs.StatementLines.{Writes, ◌also◌, writes_each, writes_line, writes_none}
use Rattle.dbc_law.proofs.StatementRules.{finish, past}
use Rattle.dbc_law.proofs.StatementWords.{says_cited, says_text}

abbrev text_and_end : List ℕ → List canon.Piece
text_and_end text = canon.quoted canon.space text ∷ canon.mark canon.tight (codes ";") ∷ []

-- where the line of a comment that isn't empty says so
comment_writes : (of_what : List canon.Piece) (says : List ℕ → Content) (text : List ℕ)
    → ((ts rest : List Token) → line ts (of_what ++ text_and_end text) rest → grammar.comment_line ts (says text) rest)
    → Writes (canon.comment_lines of_what text) (comments says text)
unfolding grammar.line
comment_writes of_what says [] reads = writes_none
comment_writes of_what says (b ∷ bs) reads =
    writes_line keyword.Comment (of_what ++ text_and_end (b ∷ bs)) (says (b ∷ bs)) refl
    (λ ts rest is_line next. reads ts rest is_line)

pub file_comment_writes : (text : List ℕ) → Writes (canon.comment_lines [] text) (comments CommentIs text)
unfolding grammar.comment_line grammar.file_comment
file_comment_writes text =
    comment_writes [] CommentIs text (λ ts rest (a, quoted, (b, mark, same)).
    inl (past quoted (says_text canon.space text) (past mark (λ _ _. refl) (finish same))))

pub node_comment_writes : (n : Node) → Writes (canon.node_comment n) (node_comments n)
unfolding grammar.comment_line grammar.node_comment
node_comment_writes n =
    comment_writes (canon.word canon.space (codes "BU_") ∷ canon.word canon.space n.name ∷ []) (NodeCommentIs n.name)
    n.comment
    (λ ts rest (a, word, (b, name, (c, quoted, (d, mark, same)))).
    inr (inl (past word (λ _ _. refl)
    (past name (λ _ _. refl)
    (past quoted (says_text canon.space n.comment) (past mark (λ _ _. refl) (finish same)))))))

message_comment_writes : (m : Message) → IsMessage m
    → Writes (canon.comment_lines (canon.word canon.space (codes "BO_") ∷ canon.number canon.space (number_of m) ∷ [])
    m.comment)
    (comments (MessageCommentIs (Some (number_of m))) m.comment)
unfolding grammar.comment_line grammar.message_comment
message_comment_writes m h =
    comment_writes (canon.word canon.space (codes "BO_") ∷ canon.number canon.space (number_of m) ∷ [])
    (MessageCommentIs (Some (number_of m))) m.comment
    (λ ts rest (a, word, (b, number, (c, quoted, (d, mark, same)))).
    inr (inr (inl (past word (λ _ _. refl)
    (past number (says_cited m h)
    (past quoted (says_text canon.space m.comment)
    (past mark (λ _ _. refl) (finish same))))))))

signal_comment_writes : (m : Message) (s : Signal) → IsMessage m
    → Writes (canon.comment_lines (canon.signal_pieces m s) s.comment) (signal_comments m s)
unfolding grammar.comment_line grammar.signal_comment
signal_comment_writes m s h =
    comment_writes (canon.signal_pieces m s) (SignalCommentIs (Some (number_of m)) s.name) s.comment
    (λ ts rest (a, word, (b, number, (c, name, (d, quoted, (e, mark, same))))).
    inr (inr (inr (inl (past word (λ _ _. refl)
    (past number (says_cited m h)
    (past name (λ _ _. refl)
    (past quoted (says_text canon.space s.comment)
    (past mark (λ _ _. refl) (finish same))))))))))

pub message_comments_write : (m : Message) → IsMessage m → Writes (canon.message_comments m) (message_comments m)
message_comments_write m h =
    message_comment_writes m h
    also writes_each IsSignal (λ (s : Signal). canon.comment_lines (canon.signal_pieces m s) s.comment)
    (signal_comments m) (λ s _. signal_comment_writes m s h) m.signals h.signals
