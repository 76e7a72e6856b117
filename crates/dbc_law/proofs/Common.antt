-- What several proofs use of other crates, passed on from one place.
pub use Rattle.std.proofs.Common.{◌==◌, ℕ, List, [], ◌∷◌, ◌++◌, map, Some, if◌then◌else◌, refl, ◌≡◌, ◌<◌, ◌^◌, arith}
pub use Rattle.std.proofs.Common.{◌∙◌, Bool, false, Option, None, unwrap_or, sym, ap, subst, append-nil, true, not}
pub use Rattle.std.proofs.Common.{cond, length, inl, inr, ◌&&◌, is_some, nat_le, IfSome, ◌≤◌, ◌+◌, append_assoc}
pub use Rattle.std.proofs.lemmas.Bool.{and_parts, or_parts, and_from}
pub use Rattle.std.proofs.lemmas.Bool.Decides.{nat_tests}
pub use Rattle.std.proofs.lemmas.List.{length-append}
pub use Rattle.std.proofs.lemmas.List.Elements.{All-head, All-tail}
pub use Rattle.std.specs.Char.{is_ascii_digit}
pub use Rattle.std.specs.Fmt.{decimal}
pub use Rattle.std.specs.Int.{is_negative}
pub use Rattle.std.specs.List.{flat_map, AllByRecursion, filter_map, All, list_all}
pub use Rattle.std.specs.Option.{option_map}
pub use Rattle.std.specs.Prelude.{codes}
pub use Rattle.std.specs.Str.{bytes_eq}
pub use Rattle.bitlayout.specs.Order.{order_number}
pub use Rattle.bitlayout.specs.declared.layout.Order.{Order}
pub use Rattle.bitlayout.specs.declared.layout.Order.TheVariants.{Intel, Motorola}
pub use Rattle.bitlayout.specs.declared.place.Mux.{Mux}
pub use Rattle.bitlayout.specs.declared.place.Mux.TheVariants.{Always, Multiplexor, Under}
pub use Rattle.dbc_grammar.proofs.EachStated.{kept_entries}
pub use Rattle.dbc_grammar.proofs.SheetStated.{message_signals, part_entries, signal_key, entries}
pub use Rattle.dbc_grammar.specs.Canon.{Piece, mark, tight, canonical_text, Line, space, word, number, quoted}
pub use Rattle.dbc_grammar.specs.Canon.{message_comments, node_comment, line_text}
pub use Rattle.dbc_grammar.specs.Fields.{goes_on, node_of}
pub use Rattle.dbc_grammar.specs.Rules.{Rule, many, token}
pub use Rattle.dbc_grammar.specs.Saying.{table_in, message_in, node_comment_in, message_comment_in, signal_comment_in}
pub use Rattle.dbc_grammar.specs.Saying.{value_texts_in, value_type_in, spn_in}
pub use Rattle.dbc_grammar.specs.Spelling.{Spells, is_mark}
pub use Rattle.dbc_grammar.specs.Statement.{Content, CommentIs, Statement, ValueTextsAre, NodeCommentIs}
pub use Rattle.dbc_grammar.specs.Statement.{MessageCommentIs, SignalCommentIs, ValueTypeIs, SpnIs}
pub use Rattle.dbc_grammar.specs.Token.{Token}
pub use Rattle.dbc_grammar.specs.Tokens.{IsGap, HasTokens}
pub use Rattle.dbc_grammar.specs.declared.token.TokenKind.{TokenKind}
pub use Rattle.dbc_grammar.specs.declared.token.TokenKind.TheVariants.{Name, Text, Mark}
pub use Rattle.dbc_sheet.specs.Form.{IsSheet, IsMessage, IsSignal, IsValueText, IsNode, IsTable, IsMux}
pub use Rattle.dbc_sheet.specs.Messages.{number_of}
pub use Rattle.dbc_sheet.specs.Sheet.{node_name}
pub use Rattle.dbc_sheet.specs.declared.message.Message.{Message}
pub use Rattle.dbc_sheet.specs.declared.node.Node.{Node}
pub use Rattle.dbc_sheet.specs.declared.sheet.Sheet.{Sheet}
pub use Rattle.dbc_sheet.specs.declared.signal.Signal.{Signal}
pub use Rattle.dbc_sheet.specs.declared.value_table.ValueTable.{ValueTable}
pub use Rattle.dbc_sheet.specs.declared.value_texts.ValueText.{ValueText}
pub use Rattle.dbc_words.proofs.Texts.{text-Decides}
pub use Rattle.dbc_words.specs.Keyword.{is_keyword, keyword_text}
pub use Rattle.dbc_words.specs.Limits.{spn_limit, name_limit}
pub use Rattle.dbc_words.specs.Name.{is_c_identifier, no_node, IsName, continues_identifier}
pub use Rattle.dbc_words.specs.Text.{IsText}
pub use Rattle.dbc_words.specs.ValueType.{value_type_number}
pub use Rattle.dbc_words.specs.declared.keyword.Keyword.{Keyword}
pub use Rattle.dbc_words.specs.declared.value_type.ValueType.{ValueType}
pub use Rattle.dbc_words.specs.declared.value_type.ValueType.TheVariants.{Integer, Float, Double}
pub use Rattle.decimal.proofs.ReadsBack.{text_reads}
pub use Rattle.decimal.specs.Number.{Number, IsDecimal}
pub use Rattle.decimal.specs.Spelling.{are_digits}
