-- Statements whose contents are a sheet's canonical ones say the sheet.
use Rattle.dbc_law.proofs.Common.{◌≡◌, ◌∙◌, ℕ, Bool, false, List, [], ◌∷◌, map, Option, None, unwrap_or, refl, sym, ap}
use Rattle.dbc_law.proofs.Common.{subst, append-nil, AllByRecursion, filter_map, flat_map, bytes_eq, IsSheet, number_of}
use Rattle.dbc_law.proofs.Common.{Integer, node_name, Content, CommentIs, Statement, Message, Node, Sheet, Signal}
use Rattle.dbc_law.proofs.Common.{kept_entries, message_signals, part_entries, signal_key}
use Rattle.std.proofs.Common.{nat_eq, IsPermutation}
use Rattle.std.specs.List.{last_or}
use Rattle.std.proofs.lemmas.List.Sorted.{IsPermutation-refl}
use Rattle.dbc_grammar.specs.Saying.{
  SignalKey,
  same_signal,
  comment_in,
  node_comment_in,
  message_comment_in,
  signal_comment_in,
  value_texts_in,
  value_type_in,
  spn_in,
  version_in,
  nodes_in,
  table_in,
  message_in,
  each_in,
  last_value_of,
  node_names_of,
  messages_of,
  whole_message,
  whole_node,
  whole_signal,
  Says,
}
use Rattle.dbc_grammar.proofs.EachStated.{last_value}
use Rattle.dbc_grammar.proofs.SheetStated.{messages_stated, nodes_stated, signals_stated}
use Rattle.dbc_law.proofs.Contents.{comments, contents, contents_of, message_line, node_names, signal_line}
use Rattle.dbc_law.proofs.SayingContents.{each_in-contents}
use Rattle.dbc_law.proofs.SayingEntries.{empty_list, empty_number, empty_type, some_number, some_of, some_type}
use Rattle.dbc_law.proofs.SayingKinds as kinds

-- a comment that is left out if it is empty is stated
last_comment : (t : List ℕ) → t ≡ unwrap_or (last_or None (filter_map comment_in (comments CommentIs t))) []
last_comment [] = refl
last_comment (b ∷ bs) = refl

module _ (statements : List Statement) where
  -- ---- what the statements say of each node, message and signal is its own value

  abbrev NodesStated : List Node → Type 0
  NodesStated ns = AllByRecursion
      (λ (n : Node). last_value_of bytes_eq n.name [] node_comment_in statements ≡ n.comment) ns

  abbrev MessagesStated : List Message → Type 0
  MessagesStated ms = AllByRecursion
      (λ (m : Message). last_value_of nat_eq (number_of m) [] message_comment_in statements ≡ m.comment) ms

  abbrev SignalsStated : {V : Type 0} → V → (Content → Option (SignalKey × V)) → (Signal → V) → Message → List Signal
      → Type 0
  SignalsStated v kind value m xs =
      AllByRecursion (λ (x : Signal). last_value_of same_signal (signal_key m x) v kind statements ≡ value x) xs

  abbrev EachSignalStated : {V : Type 0} → V → (Content → Option (SignalKey × V)) → (Signal → V) → List Message → Type 0
  EachSignalStated v kind value ms = AllByRecursion (λ (m : Message). SignalsStated v kind value m m.signals) ms

  -- ---- so they are whole

  whole_nodes : (ns : List Node) → NodesStated ns → map (whole_node statements) (map node_name ns) ≡ ns
  whole_nodes [] all = refl
  whole_nodes (n ∷ ns) all = λ i. record { name = n.name; comment = all.0 i } ∷ whole_nodes ns all.1 i

  whole_signals : (m : Message) (xs : List Signal) → SignalsStated [] signal_comment_in (λ x. x.comment) m xs
      → SignalsStated 0 spn_in (λ x. x.spn) m xs
      → SignalsStated [] value_texts_in (λ x. x.values) m xs
      → SignalsStated Integer value_type_in (λ x. x.value_type) m xs
      → map (whole_signal statements (number_of m)) (map signal_line xs) ≡ xs
  whole_signals m [] c p v t = refl
  whole_signals m (x ∷ xs) c p v t = λ i. record {
    name = x.name;
    layout = x.layout;
    signed = x.signed;
    mux = x.mux;
    factor = x.factor;
    offset = x.offset;
    minimum = x.minimum;
    maximum = x.maximum;
    unit = x.unit;
    receivers = x.receivers;
    comment = c.0 i;
    spn = p.0 i;
    values = v.0 i;
    value_type = t.0 i;
  } ∷ whole_signals m xs c.1 p.1 v.1 t.1 i

  whole_messages : (ms : List Message) → MessagesStated ms → EachSignalStated [] signal_comment_in (λ x. x.comment) ms
      → EachSignalStated 0 spn_in (λ x. x.spn) ms → EachSignalStated [] value_texts_in (λ x. x.values) ms
      → EachSignalStated Integer value_type_in (λ x. x.value_type) ms
      → map (whole_message statements) (map message_line ms) ≡ ms
  whole_messages [] own c p v t = refl
  whole_messages (m ∷ ms) own c p v t = λ i. record {
    ident = m.ident;
    name = m.name;
    length = m.length;
    transmitter = m.transmitter;
    comment = own.0 i;
    signals = whole_signals m m.signals c.0 p.0 v.0 t.0 i;
  } ∷ whole_messages ms own.1 c.1 p.1 v.1 t.1 i

module _ (s : Sheet) (is : IsSheet s) (statements : List Statement) (say : contents_of statements ≡ contents s) where
  -- what the contents say the statements say
  stated_by : {X : Type 0} (kind : Content → Option X) (xs : List X) → filter_map kind (contents s) ≡ xs
      → each_in kind statements ≡ xs
  stated_by kind xs e = each_in-contents kind statements ∙ ap (filter_map kind) say ∙ e

  -- so each node, message and signal has its own comment, number, texts and type
  nodes_own : NodesStated statements s.nodes
  nodes_own =
      subst (λ es. AllByRecursion (λ (n : Node). last_value bytes_eq [] n.name es ≡ n.comment) s.nodes)
      (sym (stated_by node_comment_in _ (kinds.node_comment_in-contents s)))
      (nodes_stated some_of [] empty_list s is.well_formed (λ (n : Node). n.comment))

  messages_own : MessagesStated statements s.messages
  messages_own =
      subst (λ es. AllByRecursion (λ (m : Message). last_value nat_eq [] (number_of m) es ≡ m.comment) s.messages)
      (sym (stated_by message_comment_in _ (kinds.message_comment_in-contents s)))
      (messages_stated some_of [] empty_list s is.well_formed (λ (m : Message). m.comment))

  signals_own : {V : Type 0} (keep : V → Bool) (v : V) → ((x : V) → keep x ≡ false → x ≡ v)
      → (kind : Content → Option (SignalKey × V)) (value : Signal → V)
      → filter_map kind (contents s) ≡ kept_entries keep (part_entries message_signals signal_key value s.messages)
      → EachSignalStated statements v kind value s.messages
  signals_own keep v empty kind value e =
      subst (λ es. AllByRecursion
      (λ (m : Message). AllByRecursion (λ (x : Signal). last_value same_signal v (signal_key m x) es ≡ value x)
      m.signals) s.messages)
      (sym (stated_by kind _ e)) (signals_stated keep v empty s is.well_formed value)

  -- and messages and nodes are the sheet's
  own_messages : map (whole_message statements) (messages_of statements) ≡ s.messages
  own_messages =
      ap (map (whole_message statements)) (stated_by message_in _ (kinds.message_in-contents s))
      ∙ whole_messages statements s.messages messages_own
      (signals_own some_of [] empty_list signal_comment_in (λ (x : Signal). x.comment)
      (kinds.signal_comment_in-contents s))
      (signals_own some_number 0 empty_number spn_in (λ (x : Signal). x.spn) (kinds.spn_in-contents s))
      (signals_own some_of [] empty_list value_texts_in (λ (x : Signal). x.values) (kinds.value_texts_in-contents s))
      (signals_own some_type Integer empty_type value_type_in (λ (x : Signal). x.value_type)
      (kinds.value_type_in-contents s))

  own_nodes : map (whole_node statements) (node_names_of statements) ≡ s.nodes
  own_nodes =
      ap (λ names. map (whole_node statements) (flat_map (λ (n : List (List ℕ)). n) names))
      (stated_by nodes_in _ (kinds.nodes_in-contents s))
      ∙ ap (map (whole_node statements)) (append-nil (node_names s)) ∙ whole_nodes statements s.nodes nodes_own

-- so they say the sheet
pub contents_say : (s : Sheet) → IsSheet s → (statements : List Statement) → contents_of statements ≡ contents s
    → Says statements s
contents_say s is statements say = record {
  is_sheet = is;
  version = sym (ap (λ vs. unwrap_or (last_or None vs) [])
      (stated_by s is statements say version_in _ (kinds.version_in-contents s)));
  comment = last_comment s.comment
      ∙ sym (ap (λ vs. unwrap_or (last_or None vs) [])
      (stated_by s is statements say comment_in _ (kinds.comment_in-contents s)));
  nodes = sym (own_nodes s is statements say);
  tables = sym (stated_by s is statements say table_in _ (kinds.table_in-contents s));
  messages = subst (λ ms. IsPermutation ms s.messages) (sym (own_messages s is statements say))
      (IsPermutation-refl s.messages);
}
