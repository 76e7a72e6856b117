-- What several proofs use of other crates, passed on from one place.
pub use Rattle.std.proofs.Common.{◌≡◌, false, true, [], ◌∷◌, codes, refl, ◌==◌, ◌+◌, ◌++◌, ℕ, Bool, List, filter, sym}
pub use Rattle.std.proofs.Common.{ap, subst, ◌∙◌, append-nil, append_assoc, arith, IsPermutation, ◌&&◌, not, Option}
pub use Rattle.std.proofs.Common.{Some, None, if◌then◌else◌, ◌-◌, length, take, drop, ◌≤◌, map, option_map, inl, inr}
pub use Rattle.std.proofs.Common.{◌||◌, unwrap_or}
pub use Rattle.std.proofs.lemmas.Bool.{and_parts, eqb-true, and_from}
pub use Rattle.std.proofs.lemmas.Bool.Decides.{nat_tests}
pub use Rattle.std.proofs.lemmas.List.{length-append, drop_at, take_at, append_cancel_right}
pub use Rattle.std.proofs.lemmas.List.Elements.{filter-append}
pub use Rattle.std.proofs.lemmas.List.Folds.{list_any-append, list_all-append}
pub use Rattle.std.proofs.lemmas.Slice.Eq.{bytes_eq-Decides}
pub use Rattle.std.specs.List.{AllByRecursion, flat_map, filter_map, list_any, cons_option, last_or, list_all}
pub use Rattle.std.specs.Str.{bytes_eq}
pub use Rattle.base.specs.WholeNumber.{is_numeral, whole_of}
pub use Rattle.can_id.specs.Ident.{dbc_number}
pub use Rattle.dbc_grammar.proofs.Divisions.{divisions_are_parts, statements_repeat}
pub use Rattle.dbc_grammar.proofs.ExactFields.{kind_is, passes}
pub use Rattle.dbc_grammar.proofs.ExactLines.{Next}
pub use Rattle.dbc_grammar.proofs.Exactness.{only_passes, Any}
pub use Rattle.dbc_grammar.specs.Canon.{spn_default, spn_definition, Line, Piece, line_text, comment_lines, each_signal}
pub use Rattle.dbc_grammar.specs.Canon.{message_comments, message_lines, node_comment, nodes_line, spn_lines}
pub use Rattle.dbc_grammar.specs.Canon.{symbols_line, table_line, timing_line, type_lines, value_lines, version_line}
pub use Rattle.dbc_grammar.specs.Canon.{with_spn_definitions}
pub use Rattle.dbc_grammar.specs.Division.{AreParts, Part, Divides}
pub use Rattle.dbc_grammar.specs.Fields.{cited_name, cited_number, is_a, is_key, is_mark, mark, sign_of, text_of}
pub use Rattle.dbc_grammar.specs.Fields.{type_of, key_of}
pub use Rattle.dbc_grammar.specs.Grammar.{begins_next, is_open, is_spn_name, next, spn_of, file_comment}
pub use Rattle.dbc_grammar.specs.Grammar.{message_comment, message_line, other_line, independent_line}
pub use Rattle.dbc_grammar.specs.Grammar.{passed_value_texts, signal_comment, spn_line, value_texts_line, statement}
pub use Rattle.dbc_grammar.specs.Rules.{Rule, token, one, only, ◌>>=◌, done, optional, many, either}
pub use Rattle.dbc_grammar.specs.Saying.{Says, is_passed, passed_by, SignalKey, each_in, message_in, nodes_in}
pub use Rattle.dbc_grammar.specs.Saying.{has_message, has_signal, same_signal, keys_of}
pub use Rattle.dbc_grammar.specs.Spelling.{Spells}
pub use Rattle.dbc_grammar.specs.Statement.{Content, PassedOver, Statement, VersionIs, NodesAre, TableIs, MessageIs}
pub use Rattle.dbc_grammar.specs.Statement.{CommentIs, Dropped, SpnIs, Cited, NodeCommentIs, MessageCommentIs}
pub use Rattle.dbc_grammar.specs.Statement.{SignalCommentIs, ValueTextsAre, ValueTypeIs, MessageLine, SignalLine}
pub use Rattle.dbc_grammar.specs.Token.{Token}
pub use Rattle.dbc_grammar.specs.Tokens.{HasTokens, IsLongest}
pub use Rattle.dbc_grammar.specs.declared.token.TokenKind.{TokenKind}
pub use Rattle.dbc_grammar.specs.declared.token.TokenKind.TheVariants.{Name, Text, Mark}
pub use Rattle.dbc_law.proofs.Contents.{contents_of, node_names}
pub use Rattle.dbc_law.proofs.PieceTokens.{line, token_of}
pub use Rattle.dbc_law.proofs.SayingContents.{each_in-contents}
pub use Rattle.dbc_law.proofs.StatementAttached.{value_texts_write, value_types_write}
pub use Rattle.dbc_law.proofs.StatementComments.{file_comment_writes, message_comments_write, node_comment_writes}
pub use Rattle.dbc_law.proofs.StatementHeading.{heading_writes, tables_write}
pub use Rattle.dbc_law.proofs.StatementLines.{Writes, means, writes_each}
pub use Rattle.dbc_law.proofs.StatementMessages.{messages_write}
pub use Rattle.dbc_law.proofs.TokenEnds.{word_longest}
pub use Rattle.dbc_law.proofs.TokenLegible.{pieces_text}
pub use Rattle.dbc_sheet.specs.Form.{IsMessage, IsNode, IsSheet}
pub use Rattle.dbc_sheet.specs.Messages.{number_of}
pub use Rattle.dbc_sheet.specs.declared.node.Node.{Node}
pub use Rattle.dbc_sheet.specs.declared.sheet.Sheet.{Sheet}
pub use Rattle.dbc_sheet.specs.declared.value_texts.ValueText.{ValueText}
pub use Rattle.dbc_words.specs.Keyword.{keyword_text, KeywordGroup, Kept, Passed, Refused, keyword_group}
pub use Rattle.dbc_words.specs.declared.keyword.Keyword.{Keyword}
pub use Rattle.dbc_words.specs.declared.keyword.Keyword.TheVariants.{Message, EnvironmentVariable, Nodes, Signal}
pub use Rattle.dbc_words.specs.declared.keyword.Keyword.TheVariants.{Version, NewSymbols, BitTiming, ValueTable}
pub use Rattle.dbc_words.specs.declared.keyword.Keyword.TheVariants.{Comment, ValueTexts, SignalValueType}
pub use Rattle.dbc_words.specs.declared.keyword.Keyword.TheVariants.{AttributeValue}
pub use Rattle.dbc_words.specs.declared.value_type.ValueType.{ValueType}
pub use Rattle.dbc_words.specs.declared.value_type.ValueType.TheVariants.{Integer}
pub use Rattle.decimal.specs.Number.{Number}
