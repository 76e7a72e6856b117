-- What the contents of a sheet say, by kind: each kind occurs in one section only, and the others say nothing of it.
use Rattle.dbc_law.proofs.Common.{◌≡◌, ◌∙◌, ◌++◌, List, [], ◌∷◌, map, Option, refl, ap, append-nil, filter_map}
use Rattle.dbc_law.proofs.Common.{flat_map, number_of, table_in, message_in, node_comment_in, message_comment_in}
use Rattle.dbc_law.proofs.Common.{signal_comment_in, value_texts_in, value_type_in, spn_in, node_name, Content}
use Rattle.dbc_law.proofs.Common.{CommentIs, Message, Node, Sheet, Signal, kept_entries, entries, message_signals}
use Rattle.dbc_law.proofs.Common.{part_entries, signal_key}
use Rattle.dbc_grammar.specs.Saying.{version_in, comment_in, nodes_in}
use Rattle.dbc_law.proofs.Contents.{comments, contents, each_signal, message, message_comments, message_line}
use Rattle.dbc_law.proofs.Contents.{node_comments, node_names, sections, spns, table, value_texts, value_types}
use Rattle.dbc_law.proofs.Contents.{with_spn_definitions}
use Rattle.dbc_law.proofs.SayingContents.{States, ◌also◌}
use Rattle.dbc_law.proofs.SayingEntries.{some_number, some_of, some_type}
use Rattle.dbc_law.proofs.SayingOtherKinds.{no_comment, no_message_comments, no_messages, no_node_comments, no_spns}
use Rattle.dbc_law.proofs.SayingOtherKinds.{no_tables, no_value_texts, no_value_types}
use Rattle.dbc_law.proofs.SayingSections.{
  message_comments_state,
  messages_state,
  node_comments_state,
  signal_comments_state,
  spns_state,
  tables_state,
  value_texts_state,
  value_types_state,
}

-- what the sections say, one after the other
sections_state : {X : Type 0} (kind : Content → Option X) (s : Sheet) {ts ms xs ns os ps vs ys : List X}
    → States kind (map table s.tables) ts
    → States kind (map message s.messages) ms → States kind (comments CommentIs s.comment) xs
    → States kind (flat_map node_comments s.nodes) ns
    → States kind (flat_map message_comments s.messages) os → States kind (with_spn_definitions (each_signal spns s)) ps
    → States kind (each_signal value_texts s) vs
    → States kind (each_signal value_types s) ys → filter_map kind (sections s) ≡ ts ++ ms ++ xs ++ ns ++ os ++ ps ++ vs
    ++ ys
sections_state kind s t m x n o p v y = (t also m also x also n also o also p also v also y).contents_are

module _ (s : Sheet) where
  pub version_in-contents : filter_map version_in (contents s) ≡ s.version ∷ []
  version_in-contents =
      ap (λ rest. s.version ∷ rest)
      (sections_state version_in s (no_tables s (λ n vs. refl)) (no_messages s (λ m. refl)) (no_comment s (λ t. refl))
      (no_node_comments s (λ n t. refl))
      (no_message_comments s (λ c t. refl) (λ c n t. refl)) (no_spns s refl (λ c n p. refl))
      (no_value_texts s (λ c n vs. refl)) (no_value_types s (λ c n t. refl)))

  pub nodes_in-contents : filter_map nodes_in (contents s) ≡ node_names s ∷ []
  nodes_in-contents =
      ap (λ rest. node_names s ∷ rest)
      (sections_state nodes_in s (no_tables s (λ n vs. refl)) (no_messages s (λ m. refl)) (no_comment s (λ t. refl))
      (no_node_comments s (λ n t. refl))
      (no_message_comments s (λ c t. refl) (λ c n t. refl)) (no_spns s refl (λ c n p. refl))
      (no_value_texts s (λ c n vs. refl)) (no_value_types s (λ c n t. refl)))

  pub table_in-contents : filter_map table_in (contents s) ≡ s.tables
  table_in-contents =
      sections_state table_in s (tables_state s.tables) (no_messages s (λ m. refl)) (no_comment s (λ t. refl))
      (no_node_comments s (λ n t. refl))
      (no_message_comments s (λ c t. refl) (λ c n t. refl)) (no_spns s refl (λ c n p. refl))
      (no_value_texts s (λ c n vs. refl)) (no_value_types s (λ c n t. refl)) ∙ simp append-nil refl

  pub message_in-contents : filter_map message_in (contents s) ≡ map message_line s.messages
  message_in-contents =
      sections_state message_in s (no_tables s (λ n vs. refl)) (messages_state s.messages) (no_comment s (λ t. refl))
      (no_node_comments s (λ n t. refl))
      (no_message_comments s (λ c t. refl) (λ c n t. refl)) (no_spns s refl (λ c n p. refl))
      (no_value_texts s (λ c n vs. refl)) (no_value_types s (λ c n t. refl)) ∙ simp append-nil refl

  -- the comment of the sheet, where it is not empty
  pub comment_in-contents : filter_map comment_in (contents s) ≡ filter_map comment_in (comments CommentIs s.comment)
  comment_in-contents =
      sections_state comment_in s (no_tables s (λ n vs. refl)) (no_messages s (λ m. refl))
      (record { contents_are = refl }) (no_node_comments s (λ n t. refl))
      (no_message_comments s (λ c t. refl) (λ c n t. refl)) (no_spns s refl (λ c n p. refl))
      (no_value_texts s (λ c n vs. refl)) (no_value_types s (λ c n t. refl)) ∙ simp append-nil refl

  -- comments, numbers, texts and types, where they are not empty: of nodes, of messages and of signals
  pub node_comment_in-contents : filter_map node_comment_in (contents s)
      ≡ kept_entries some_of (entries node_name (λ (n : Node). n.comment) s.nodes)
  node_comment_in-contents =
      sections_state node_comment_in s (no_tables s (λ n vs. refl)) (no_messages s (λ m. refl))
      (no_comment s (λ t. refl)) (node_comments_state s)
      (no_message_comments s (λ c t. refl) (λ c n t. refl)) (no_spns s refl (λ c n p. refl))
      (no_value_texts s (λ c n vs. refl)) (no_value_types s (λ c n t. refl)) ∙ simp append-nil refl

  pub message_comment_in-contents : filter_map message_comment_in (contents s)
      ≡ kept_entries some_of (entries number_of (λ (m : Message). m.comment) s.messages)
  message_comment_in-contents =
      sections_state message_comment_in s (no_tables s (λ n vs. refl)) (no_messages s (λ m. refl))
      (no_comment s (λ t. refl)) (no_node_comments s (λ n t. refl))
      (message_comments_state s) (no_spns s refl (λ c n p. refl)) (no_value_texts s (λ c n vs. refl))
      (no_value_types s (λ c n t. refl)) ∙ simp append-nil refl

  pub signal_comment_in-contents : filter_map signal_comment_in (contents s)
      ≡ kept_entries some_of (part_entries message_signals signal_key (λ (x : Signal). x.comment) s.messages)
  signal_comment_in-contents =
      sections_state signal_comment_in s (no_tables s (λ n vs. refl)) (no_messages s (λ m. refl))
      (no_comment s (λ t. refl)) (no_node_comments s (λ n t. refl))
      (signal_comments_state s) (no_spns s refl (λ c n p. refl)) (no_value_texts s (λ c n vs. refl))
      (no_value_types s (λ c n t. refl)) ∙ simp append-nil refl

  pub spn_in-contents : filter_map spn_in (contents s) ≡ kept_entries some_number
      (part_entries message_signals signal_key (λ (x : Signal). x.spn) s.messages)
  spn_in-contents =
      sections_state spn_in s (no_tables s (λ n vs. refl)) (no_messages s (λ m. refl)) (no_comment s (λ t. refl))
      (no_node_comments s (λ n t. refl))
      (no_message_comments s (λ c t. refl) (λ c n t. refl)) (spns_state s)
      (no_value_texts s (λ c n vs. refl)) (no_value_types s (λ c n t. refl)) ∙ simp append-nil refl

  pub value_texts_in-contents : filter_map value_texts_in (contents s)
      ≡ kept_entries some_of (part_entries message_signals signal_key (λ (x : Signal). x.values) s.messages)
  value_texts_in-contents =
      sections_state value_texts_in s (no_tables s (λ n vs. refl)) (no_messages s (λ m. refl))
      (no_comment s (λ t. refl)) (no_node_comments s (λ n t. refl))
      (no_message_comments s (λ c t. refl) (λ c n t. refl)) (no_spns s refl (λ c n p. refl)) (value_texts_state s)
      (no_value_types s (λ c n t. refl)) ∙ simp append-nil refl

  pub value_type_in-contents : filter_map value_type_in (contents s) ≡ kept_entries some_type
      (part_entries message_signals signal_key (λ (x : Signal). x.value_type) s.messages)
  value_type_in-contents =
      sections_state value_type_in s (no_tables s (λ n vs. refl)) (no_messages s (λ m. refl)) (no_comment s (λ t. refl))
      (no_node_comments s (λ n t. refl))
      (no_message_comments s (λ c t. refl) (λ c n t. refl)) (no_spns s refl (λ c n p. refl))
      (no_value_texts s (λ c n vs. refl)) (value_types_state s)
