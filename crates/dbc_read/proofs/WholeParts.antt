-- Nodes, messages and signals that take what the statements say of them are those that the statements say.
use Rattle.dbc_read.proofs.Common.{◌≡◌, ◌∙◌, ◌++◌, ℕ, nat_eq, List, [], ◌∷◌, map, refl, ap, flat_map, bytes_eq}
use Rattle.dbc_read.proofs.Common.{dbc_number, Integer, SignalKey, keys_of, last_value_of, message_comment_in}
use Rattle.dbc_read.proofs.Common.{node_comment_in, same_signal, signal_comment_in, spn_in, value_texts_in}
use Rattle.dbc_read.proofs.Common.{value_type_in, whole_message, whole_node, whole_signal, SignalLine, Message}
use Rattle.dbc_grammar.specs.Statement.{MessageLine, Statement}
use Rattle.dbc_read.specs.Built.{feeds_after, messages_from, nodes_from, signals_from}
use Rattle.dbc_read.specs.declared.feed.Feeds.{Feeds}

module _ (ss : List Statement) where
  abbrev pub node_comment : List ℕ → List ℕ
  node_comment name = last_value_of bytes_eq name [] node_comment_in ss

  abbrev pub message_comment : ℕ → List ℕ
  message_comment number = last_value_of nat_eq number [] message_comment_in ss

  -- what the statements say of the signals of these keys
  abbrev pub feeds_stated : List SignalKey → Feeds
  feeds_stated keys = record {
    comments = map (λ key. last_value_of same_signal key [] signal_comment_in ss) keys;
    values = map (λ key. last_value_of same_signal key [] value_texts_in ss) keys;
    types = map (λ key. last_value_of same_signal key Integer value_type_in ss) keys;
    spns = map (λ key. last_value_of same_signal key 0 spn_in ss) keys;
  }

  pub nodes_whole : (names : List (List ℕ)) → nodes_from names (map node_comment names) ≡ map (whole_node ss) names
  nodes_whole [] = refl
  nodes_whole (name ∷ names) = ap (λ l. whole_node ss name ∷ l) (nodes_whole names)

  abbrev keys_in : ℕ → List SignalLine → List SignalKey
  keys_in number lines = map (λ (s : SignalLine). (number, s.name)) lines

  signals_whole : (number : ℕ) (lines : List SignalLine) (more : List SignalKey)
      → signals_from lines (feeds_stated (keys_in number lines ++ more)) ≡ map (whole_signal ss number) lines
  signals_whole number [] more = refl
  signals_whole number (line ∷ lines) more = ap (λ l. whole_signal ss number line ∷ l) (signals_whole number lines more)

  after_whole : (number : ℕ) (lines : List SignalLine) (more : List SignalKey)
      → feeds_after lines (feeds_stated (keys_in number lines ++ more)) ≡ feeds_stated more
  after_whole number [] more = refl
  after_whole number (line ∷ lines) more = after_whole number lines more

  pub messages_whole : (lines : List MessageLine)
      → messages_from lines (map message_comment (map (λ (m : MessageLine). dbc_number m.ident) lines))
      (feeds_stated (flat_map keys_of lines)) ≡ map (whole_message ss) lines
  messages_whole [] = refl
  messages_whole (line ∷ lines) =
      let more = flat_map keys_of lines in
      let comments = map message_comment (map (λ (m : MessageLine). dbc_number m.ident) lines) in
      ap (λ (l : List Message). record (whole_message ss line)
      { signals = signals_from line.signals (feeds_stated (keys_of line ++ more)) } ∷ l)
      (ap (messages_from lines comments) (after_whole (dbc_number line.ident) line.signals more) ∙ messages_whole lines)
      ∙ ap (λ signals. record (whole_message ss line) { signals = signals } ∷ map (whole_message ss) lines)
      (signals_whole (dbc_number line.ident) line.signals more)
