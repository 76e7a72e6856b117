-- The tokens of the lines of a sheet's canonical text divide into statements with its contents.
use Rattle.dbc_law.proofs.Common.{◌≡◌, List, [], ◌∷◌, refl, IsMessage, IsNode, IsSheet, many, Content, Statement, Token}
use Rattle.dbc_law.proofs.Common.{Sheet}
use Rattle.dbc_grammar.specs.Canon as canon
use Rattle.dbc_grammar.specs.Division.{Divides}
use Rattle.dbc_grammar.specs.Grammar as grammar
use Rattle.dbc_law.proofs.Contents as sheet_contents
use Rattle.dbc_law.proofs.PieceTokens.{lines}
use Rattle.dbc_law.proofs.StatementAttached.{spns_write, value_texts_write, value_types_write}
use Rattle.dbc_law.proofs.StatementComments.{file_comment_writes, message_comments_write, node_comment_writes}
use Rattle.dbc_law.proofs.StatementHeading.{heading_writes, tables_write}
use Rattle.dbc_law.proofs.StatementLines.{Writes, ◌also◌, means, writes_each}
use Rattle.dbc_law.proofs.StatementMessages.{messages_write}

contents_write : (s : Sheet) → IsSheet s → Writes (canon.canonical_lines s) (sheet_contents.contents s)
contents_write s h =
    heading_writes s h
    also tables_write s.tables h.tables
    also messages_write s.messages h.messages
    also file_comment_writes s.comment
    also writes_each IsNode canon.node_comment sheet_contents.node_comments (λ n _. node_comment_writes n) s.nodes
    h.nodes
    also writes_each IsMessage canon.message_comments sheet_contents.message_comments message_comments_write s.messages
    h.messages
    also spns_write s h
    also value_texts_write s h
    also value_types_write s h

are_statements : (ts : List Token) (cs : List Content) (rest : List Token) → many means ts cs rest
    → (ss : List Statement) × many grammar.statement ts ss rest × (sheet_contents.contents_of ss ≡ cs)
are_statements ts [] rest same = ([], same, refl)
are_statements ts (c ∷ cs) rest (middle, first, others) =
    let (ss, after, contents) = are_statements middle cs rest others in
    (first.is ∷ ss, (middle, first.there, after), λ i. first.content i ∷ contents i)

pub lines_divide : (s : Sheet) → IsSheet s → (ts : List Token) → lines ts (canon.canonical_lines s) []
    → (ss : List Statement) × Divides ts ss × (sheet_contents.contents_of ss ≡ sheet_contents.contents s)
lines_divide s h ts are_lines =
    are_statements ts (sheet_contents.contents s) [] ((contents_write s h).written ts [] are_lines refl).0
