-- The sections of a sheet's contents that say nothing of a kind.
use Rattle.dbc_law.proofs.Common.{◌≡◌, ◌==◌, ℕ, Bool, true, false, List, [], ◌∷◌, map, Option, None, Some}
use Rattle.dbc_law.proofs.Common.{if◌then◌else◌, flat_map, number_of, value_type_number, ValueType, Message, Sheet}
use Rattle.dbc_law.proofs.Common.{Signal, ValueText}
use Rattle.dbc_grammar.specs.Statement.{
  Cited,
  Content,
  TableIs,
  MessageIs,
  CommentIs,
  NodeCommentIs,
  MessageCommentIs,
  SignalCommentIs,
  ValueTextsAre,
  ValueTypeIs,
  SpnIs,
  PassedOver,
  MessageLine,
}
use Rattle.dbc_law.proofs.Contents.{
  comments,
  each_signal,
  message,
  message_comments,
  message_line,
  node_comments,
  signal_comments,
  spns,
  table,
  texts,
  value_texts,
  value_types,
  with_spn_definitions,
}
use Rattle.dbc_law.proofs.SayingContents.{States, ◌also◌, no_contents, silent}

module _ {X : Type 0} {kind : Content → Option X} where
  -- ---- lists of contents

  none_map : {A : Type 0} (f : A → Content) → ((x : A) → kind (f x) ≡ None) → (xs : List A) → States kind (map f xs) []
  none_map f none [] = no_contents
  none_map f none (x ∷ xs) = silent (none x) (none_map f none xs)

  none_flat : {A : Type 0} (f : A → List Content) → ((x : A) → States kind (f x) []) → (xs : List A)
      → States kind (flat_map f xs) []
  none_flat f none [] = no_contents
  none_flat f none (x ∷ xs) = none x also none_flat f none xs

  none_comments : (says : List ℕ → Content) → ((t : List ℕ) → kind (says t) ≡ None) → (t : List ℕ)
      → States kind (comments says t) []
  none_comments says none [] = no_contents
  none_comments says none (b ∷ bs) = silent (none (b ∷ bs)) no_contents

  none_chosen : (test : Bool) (c : Content) → kind c ≡ None → States kind (if test then [] else (c ∷ [])) []
  none_chosen true c none = no_contents
  none_chosen false c none = silent none no_contents

  none_texts : (number : ℕ) (name : List ℕ)
      → ((vs : List ValueText) → kind (ValueTextsAre (Some number) name vs) ≡ None) → (vs : List ValueText)
      → States kind (texts number name vs) []
  none_texts number name none [] = no_contents
  none_texts number name none (v ∷ vs) = silent (none (v ∷ vs)) no_contents

  -- the definitions before the first of the contents are skipped
  pub passing_definitions : (cs : List Content) {us : List X} → kind PassedOver ≡ None → States kind cs us
      → States kind (with_spn_definitions cs) us
  passing_definitions [] none states = states
  passing_definitions (c ∷ cs) none states = silent none (silent none states)

  none_each_signal : (says : Message → Signal → List Content) (s : Sheet)
      → ((m : Message) (x : Signal) → States kind (says m x) []) → States kind (each_signal says s) []
  none_each_signal says s none =
      none_flat (λ (m : Message). flat_map (says m) m.signals) (λ m. none_flat (says m) (none m) m.signals) s.messages

  -- ---- the comments of one message, and of its signals

  pub no_own_comment : (m : Message) → ((cited : Cited) (t : List ℕ) → kind (MessageCommentIs cited t) ≡ None)
      → States kind (comments (MessageCommentIs (Some (number_of m))) m.comment) []
  no_own_comment m none = none_comments (MessageCommentIs (Some (number_of m))) (none (Some (number_of m))) m.comment

  pub no_signal_comments : (m : Message)
      → ((cited : Cited) (name t : List ℕ) → kind (SignalCommentIs cited name t) ≡ None)
      → States kind (flat_map (signal_comments m) m.signals) []
  no_signal_comments m none =
      none_flat (signal_comments m)
      (λ x. none_comments (SignalCommentIs (Some (number_of m)) x.name) (none (Some (number_of m)) x.name)
      x.comment) m.signals

  -- ---- the sections

  pub no_tables : (s : Sheet) → ((name : List ℕ) (vs : List ValueText) → kind (TableIs name vs) ≡ None)
      → States kind (map table s.tables) []
  no_tables s none = none_map table (λ t. none t.name t.entries) s.tables

  pub no_messages : (s : Sheet) → ((line : MessageLine) → kind (MessageIs line) ≡ None)
      → States kind (map message s.messages) []
  no_messages s none = none_map message (λ m. none (message_line m)) s.messages

  pub no_comment : (s : Sheet) → ((t : List ℕ) → kind (CommentIs t) ≡ None)
      → States kind (comments CommentIs s.comment) []
  no_comment s none = none_comments CommentIs none s.comment

  pub no_node_comments : (s : Sheet) → ((name t : List ℕ) → kind (NodeCommentIs name t) ≡ None)
      → States kind (flat_map node_comments s.nodes) []
  no_node_comments s none = none_flat node_comments (λ n. none_comments (NodeCommentIs n.name) (none n.name) n.comment)
      s.nodes

  pub no_message_comments : (s : Sheet) → ((cited : Cited) (t : List ℕ) → kind (MessageCommentIs cited t) ≡ None)
      → ((cited : Cited) (name t : List ℕ) → kind (SignalCommentIs cited name t) ≡ None)
      → States kind (flat_map message_comments s.messages) []
  no_message_comments s none none_of_signals =
      none_flat message_comments (λ m. no_own_comment m none also no_signal_comments m none_of_signals) s.messages

  pub no_spns : (s : Sheet) → kind PassedOver ≡ None
      → ((cited : Cited) (name : List ℕ) (n : ℕ) → kind (SpnIs cited name n) ≡ None)
      → States kind (with_spn_definitions (each_signal spns s)) []
  no_spns s passed none =
      passing_definitions (each_signal spns s) passed
      (none_each_signal spns s (λ m x. none_chosen (x.spn == 0) _ (none (Some (number_of m)) x.name x.spn)))

  pub no_value_texts : (s : Sheet)
      → ((cited : Cited) (name : List ℕ) (vs : List ValueText) → kind (ValueTextsAre cited name vs) ≡ None)
      → States kind (each_signal value_texts s) []
  no_value_texts s none = none_each_signal value_texts s
      (λ m x. none_texts (number_of m) x.name (none (Some (number_of m)) x.name) x.values)

  pub no_value_types : (s : Sheet)
      → ((cited : Cited) (name : List ℕ) (t : ValueType) → kind (ValueTypeIs cited name t) ≡ None)
      → States kind (each_signal value_types s) []
  no_value_types s none =
      none_each_signal value_types s
      (λ m x. none_chosen (value_type_number x.value_type == 0) _ (none (Some (number_of m)) x.name x.value_type))
