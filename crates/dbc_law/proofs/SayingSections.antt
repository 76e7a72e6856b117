-- What the sections of a sheet's contents say that are about one kind.
use Rattle.dbc_law.proofs.Common.{◌==◌, Bool, List, [], ◌∷◌, map, Option, Some, refl, append-nil, flat_map}
use Rattle.dbc_law.proofs.Common.{value_type_number, number_of, table_in, message_in, node_comment_in}
use Rattle.dbc_law.proofs.Common.{message_comment_in, signal_comment_in, value_texts_in, value_type_in, spn_in}
use Rattle.dbc_law.proofs.Common.{node_name, Content, NodeCommentIs, MessageCommentIs, SignalCommentIs, ValueTypeIs}
use Rattle.dbc_law.proofs.Common.{SpnIs, Message, Node, Sheet, Signal, ValueTable, kept_entries, entries}
use Rattle.dbc_law.proofs.Common.{message_signals, part_entries, signal_key}
use Rattle.dbc_grammar.specs.Saying.{SignalKey}
use Rattle.dbc_law.proofs.Contents.{each_signal, message, message_comments, message_line, node_comments}
use Rattle.dbc_law.proofs.Contents.{signal_comments, spns, table, value_texts, value_types, with_spn_definitions}
use Rattle.dbc_law.proofs.SayingContents.{States, ◌also◌, no_contents, speaks, states_same}
use Rattle.dbc_law.proofs.SayingEntries.{chosen_states, comment_states, each_states, entry, parts_state, some_number}
use Rattle.dbc_law.proofs.SayingEntries.{some_of, some_type, texts_state}
use Rattle.dbc_law.proofs.SayingOtherKinds.{no_own_comment, no_signal_comments, passing_definitions}

-- ---- tables and messages

pub tables_state : (ts : List ValueTable) → States table_in (map table ts) ts
tables_state [] = no_contents
tables_state (t ∷ ts) = speaks refl (tables_state ts)

pub messages_state : (ms : List Message) → States message_in (map message ms) (map message_line ms)
messages_state [] = no_contents
messages_state (m ∷ ms) = speaks refl (messages_state ms)

-- ---- the entries of nodes, messages and signals

-- a section about each signal says the entries that are kept
signals_state : {V : Type 0} {kind : Content → Option (SignalKey × V)} (keep : V → Bool) (value : Signal → V)
    (says : Message → Signal → List Content) (s : Sheet)
    → ((m : Message) (x : Signal) → States kind (says m x) (entry (keep (value x)) (signal_key m x) (value x)))
    → States kind (each_signal says s) (kept_entries keep (part_entries message_signals signal_key value s.messages))
signals_state keep value says s each =
    parts_state keep message_signals signal_key value (λ (m : Message). flat_map (says m) m.signals)
    (λ m. each_states keep (signal_key m) value (says m) (each m) m.signals) s.messages

pub node_comments_state : (s : Sheet)
    → States node_comment_in (flat_map node_comments s.nodes)
    (kept_entries some_of (entries node_name (λ (n : Node). n.comment) s.nodes))
node_comments_state s =
    each_states some_of node_name (λ (n : Node). n.comment) node_comments
    (λ n. comment_states (NodeCommentIs n.name) n.name (λ t. refl) n.comment) s.nodes

pub message_comments_state : (s : Sheet)
    → States message_comment_in (flat_map message_comments s.messages)
    (kept_entries some_of (entries number_of (λ (m : Message). m.comment) s.messages))
message_comments_state s =
    each_states some_of number_of (λ (m : Message). m.comment) message_comments
    (λ m. states_same (append-nil _)
    (comment_states (MessageCommentIs (Some (number_of m))) (number_of m) (λ t. refl) m.comment also no_signal_comments
    m (λ c n t. refl))) s.messages

pub signal_comments_state : (s : Sheet)
    → States signal_comment_in (flat_map message_comments s.messages)
    (kept_entries some_of (part_entries message_signals signal_key (λ (x : Signal). x.comment) s.messages))
signal_comments_state s =
    parts_state some_of message_signals signal_key (λ (x : Signal). x.comment) message_comments
    (λ m. no_own_comment m (λ c t. refl) also each_states some_of (signal_key m) (λ (x : Signal). x.comment)
    (signal_comments m)
    (λ x. comment_states (SignalCommentIs (Some (number_of m)) x.name) (signal_key m x) (λ t. refl) x.comment)
    m.signals) s.messages

pub spns_state : (s : Sheet)
    → States spn_in (with_spn_definitions (each_signal spns s))
    (kept_entries some_number (part_entries message_signals signal_key (λ (x : Signal). x.spn) s.messages))
spns_state s =
    passing_definitions (each_signal spns s) refl (signals_state some_number (λ (x : Signal). x.spn) spns s
    (λ m x. chosen_states (x.spn == 0) (SpnIs (Some (number_of m)) x.name x.spn) (signal_key m x) x.spn refl))

pub value_texts_state : (s : Sheet)
    → States value_texts_in (each_signal value_texts s)
    (kept_entries some_of (part_entries message_signals signal_key (λ (x : Signal). x.values) s.messages))
value_texts_state s =
    signals_state some_of (λ (x : Signal). x.values) value_texts s
    (λ m x. texts_state (number_of m) x.name (signal_key m x) (λ vs. refl) x.values)

pub value_types_state : (s : Sheet)
    → States value_type_in (each_signal value_types s)
    (kept_entries some_type (part_entries message_signals signal_key (λ (x : Signal). x.value_type) s.messages))
value_types_state s =
    signals_state some_type (λ (x : Signal). x.value_type) value_types s
    (λ m x. chosen_states (value_type_number x.value_type == 0) (ValueTypeIs (Some (number_of m)) x.name x.value_type)
    (signal_key m x) x.value_type refl)
