-- What several proofs use of other crates, passed on from one place.
pub use Rattle.std.proofs.Common.{◌≡◌, ◌∙◌, ◌++◌, ℕ, true, List, [], ◌∷◌, length, map, replicate, Some, None, refl, sym}
pub use Rattle.std.proofs.Common.{ap, append_assoc, append-nil, subst, true≢false, ◌+◌, arith, Option, IsPermutation}
pub use Rattle.std.proofs.Common.{◌&&◌, ◌<◌, slice_set, false, nat_lt, nat_eq, Bool, if◌then◌else◌, ◌==◌, Result}
pub use Rattle.std.proofs.Common.{is_some, inl, inr, ◌≤◌, drop, take, get_or, ◌||◌, length-append, zero, suc}
pub use Rattle.std.proofs.Common.{slice_index_or, cond, not, Box, Global, Err, Bor, nat_cmp, rules, ◌-◌}
pub use Rattle.std.proofs.Math.ListN.{drop_of_length-le}
pub use Rattle.std.proofs.lemmas.Bool.{cases_lt}
pub use Rattle.std.proofs.lemmas.Bool.Decides.{nat_tests, Decides-eqb}
pub use Rattle.std.proofs.lemmas.Fn.{always_returns_same}
pub use Rattle.std.proofs.lemmas.List.{take_more_set, map-append, length-map, drop_more, take-append-drop}
pub use Rattle.std.proofs.lemmas.List.{with_items_is, take_all}
pub use Rattle.std.proofs.lemmas.List.Elements.{filter_map-append}
pub use Rattle.std.proofs.lemmas.List.Folds.{list_any-append}
pub use Rattle.std.proofs.lemmas.List.Sorted.{All-permutation, IsPermutation-sym, searchable_from_sorted}
pub use Rattle.std.proofs.lemmas.List.Sorted.{IsPermutation-trans, IsPermutation-append_right, ranks_by}
pub use Rattle.std.proofs.lemmas.Map.Keys.{IsDistinct-IsPermutation}
pub use Rattle.std.proofs.lemmas.Option.{IfSome_then}
pub use Rattle.std.proofs.lemmas.Result.{IfOk-weaker, err_from_is_err_and, on_ok_weaker}
pub use Rattle.std.specs.Cmp.Lexicographic.{nat_list_cmp_total, texts_ties}
pub use Rattle.std.specs.List.{AllByRecursion, cons_option, flat_map, last_or, list_any, All, HoldsAt, range_with_len}
pub use Rattle.std.specs.List.{IsDistinct}
pub use Rattle.std.specs.List.Sorted.{IsNonDecreasingBy, IsPartitionPoint}
pub use Rattle.std.specs.Option.{option_map}
pub use Rattle.std.specs.Ordering.{is_eq, ordering_index, is_lt}
pub use Rattle.std.specs.Prelude.{unwrap_or, codes, IfSome, IfNone, slice_get}
pub use Rattle.std.specs.Str.{bytes_eq}
pub use Rattle.std.specs.Vec.Iter.{into_iter_items}
pub use Rattle.std.specs.declared.cmp.Ordering.{Ordering}
pub use Rattle.std.specs.declared.cmp.Ordering.TheVariants.{Less, Equal, Greater}
pub use Rattle.base.specs.Keyed.{text_cmp, put}
pub use Rattle.base.specs.Refusing.{first_refusal}
pub use Rattle.bitlayout.specs.Mux.{is_multiplexor}
pub use Rattle.can_id.specs.Ident.{dbc_number}
pub use Rattle.dbc_grammar.proofs.AscendingUnique.{all_permutation}
pub use Rattle.dbc_grammar.proofs.SheetStated.{nat_flip}
pub use Rattle.dbc_grammar.specs.Lexing.{lexed, LexFault, StrayByte}
pub use Rattle.dbc_grammar.specs.Parsing.{statements_at}
pub use Rattle.dbc_grammar.specs.Saying.{messages_of, node_names_of, SignalKey, comment_in, each_in, last_at}
pub use Rattle.dbc_grammar.specs.Saying.{last_value_of, message_comment_in, message_in, node_comment_in, nodes_in}
pub use Rattle.dbc_grammar.specs.Saying.{numbers_of, passed_by, same_signal, signal_comment_in, signal_keys_of, spn_in}
pub use Rattle.dbc_grammar.specs.Saying.{table_in, value_texts_in, value_type_in, version_in, keys_of, Says}
pub use Rattle.dbc_grammar.specs.Saying.{whole_message, whole_node, whole_signal}
pub use Rattle.dbc_grammar.specs.Statement.{Cited, SignalLine}
pub use Rattle.dbc_grammar.specs.Token.{Token}
pub use Rattle.dbc_grammar.specs.TokenLaw.{tokens_without_fault}
pub use Rattle.dbc_lex.specs.Fault.{fault_of}
pub use Rattle.dbc_lex.specs.declared.fault.ReadCode.{ReadCode}
pub use Rattle.dbc_lex.specs.declared.fault.ReadCode.TheVariants.{TooMany}
pub use Rattle.dbc_lex.specs.declared.fault.ReadFault.{ReadFault}
pub use Rattle.dbc_sheet.specs.Messages.{number_of, message_name, by_number, message_tests}
pub use Rattle.dbc_sheet.specs.Sheet.{node_name, table_name}
pub use Rattle.dbc_sheet.specs.Signals.{signal_name}
pub use Rattle.dbc_sheet.specs.WellFormed.{AreFewTexts, AreRostered}
pub use Rattle.dbc_sheet.specs.declared.message.Message.{Message}
pub use Rattle.dbc_sheet.specs.declared.node.Node.{Node}
pub use Rattle.dbc_sheet.specs.declared.sheet.Sheet.{Sheet}
pub use Rattle.dbc_sheet.specs.declared.signal.Signal.{Signal}
pub use Rattle.dbc_sheet.specs.declared.value_table.ValueTable.{ValueTable}
pub use Rattle.dbc_sheet.specs.declared.value_texts.ValueText.{ValueText}
pub use Rattle.dbc_statements.proofs.WholeText.{no_tokens, is_divided, no_division}
pub use Rattle.dbc_statements.specs.Division.{IsDivided}
pub use Rattle.dbc_statements.specs.Parts.{message_with, table_of}
pub use Rattle.dbc_statements.specs.Statement.{content_of, message_of, names_of, statement_of, HasNothingAttached}
pub use Rattle.dbc_statements.specs.Statement.{HaveNothingAttached, signals_of, signal_of, statements_of}
pub use Rattle.dbc_statements.specs.declared.statement.CitedSignal.{CitedSignal}
pub use Rattle.dbc_statements.specs.declared.statement.Content.{Content}
pub use Rattle.dbc_statements.specs.declared.statement.MessageLine.{MessageLine}
pub use Rattle.dbc_statements.specs.declared.statement.NodeName.{NodeName}
pub use Rattle.dbc_statements.specs.declared.statement.Statement.{Statement}
pub use Rattle.dbc_statements.specs.declared.statement.TableLine.{TableLine}
pub use Rattle.dbc_words.specs.Fault.{IsRefusal}
pub use Rattle.dbc_words.specs.Limits.{value_text_limit, message_limit, roster_limit}
pub use Rattle.dbc_words.specs.Named.{AreNamedApart, has_name}
pub use Rattle.dbc_words.specs.declared.fault.SheetCode.{SheetCode}
pub use Rattle.dbc_words.specs.declared.keyword.Keyword.{Keyword}
pub use Rattle.dbc_words.specs.declared.keyword.Keyword.TheVariants.{Nodes}
pub use Rattle.dbc_words.specs.declared.value_type.ValueType.TheVariants.{Integer}
