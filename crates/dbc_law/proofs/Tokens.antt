-- The canonical text of a sheet has the tokens that its lines list.
use Rattle.dbc_law.proofs.Common.{List, [], canonical_text, message_comments, node_comment, IsMessage, IsNode, IsSheet}
use Rattle.dbc_law.proofs.Common.{Token, HasTokens, Sheet}
use Rattle.dbc_grammar.specs.Canon.{canonical_lines, message_lines}
use Rattle.dbc_law.proofs.PieceTokens.{lines}
use Rattle.dbc_law.proofs.TokenAttached.{spns_legible, value_texts_legible, value_types_legible}
use Rattle.dbc_law.proofs.TokenComments.{comment_legible, message_comments_legible, node_comment_legible}
use Rattle.dbc_law.proofs.TokenHeading.{heading_legible, tables_legible}
use Rattle.dbc_law.proofs.TokenLegible.{no_pieces}
use Rattle.dbc_law.proofs.TokenLines.{AreLegibleLines, ◌also◌, lines_of_each}
use Rattle.dbc_law.proofs.TokenMessages.{message_lines_legible}
use Rattle.dbc_law.proofs.TokensOfLines.{lines_have}

canonical_lines_legible : (s : Sheet) → IsSheet s → AreLegibleLines (canonical_lines s)
canonical_lines_legible s h =
    heading_legible s h
    also tables_legible s.tables h.tables
    also lines_of_each IsMessage message_lines message_lines_legible s.messages h.messages
    also comment_legible [] s.comment no_pieces h.comment
    also lines_of_each IsNode node_comment node_comment_legible s.nodes h.nodes
    also lines_of_each IsMessage message_comments message_comments_legible s.messages h.messages
    also spns_legible s h
    also value_texts_legible s h
    also value_types_legible s h

pub text_has_tokens : (s : Sheet) → IsSheet s → (tokens : List Token) × HasTokens 0 (canonical_text s) tokens
    × lines tokens (canonical_lines s) []
text_has_tokens s h = lines_have 0 (canonical_lines s) (canonical_lines_legible s h).each
