-- Which node, message or signal of a file a statement cites: its index among those of all statements.
use Rattle.std.specs.Prelude.{◌≡◌, ◌==◌, ⊤, ℕ, List, [], ◌∷◌, map, Option, Some, None}
use Rattle.std.specs.Borrow.{Bor}
use Rattle.std.specs.List.{flat_map}
use Rattle.std.specs.Ordering.{nat_cmp, ordering_then}
use Rattle.std.specs.Str.{bytes_eq}
use Rattle.base.specs.Keyed.{text_cmp}
use Rattle.dbc_grammar.specs.Saying.{keys_of, messages_of, node_names_of, numbers_of, same_signal, signal_keys_of}
use Rattle.dbc_grammar.specs.Statement.{Cited, Content, MessageCommentIs, MessageLine, NodeCommentIs, SignalCommentIs}
use Rattle.dbc_grammar.specs.Statement.{SpnIs, Statement, ValueTextsAre, ValueTypeIs}
use Rattle.dbc_read.specs.Keys.{key_of, text_of}
use Rattle.dbc_read.specs.Lookup.{IsIndexIn, IsLookupOf}
use Rattle.dbc_read.specs.declared.lookups.Lookups.{Lookups}

-- they have the names of the nodes, the numbers of the messages and the keys of the signals
pub record AreLookups (l : Lookups) (statements : List Statement) : Type 0 where
  pub node_names : List (Bor (List ℕ))
  pub nodes : IsLookupOf (λ (a b : Bor (List ℕ)). text_cmp a.now b.now) l.nodes node_names
  pub names : map text_of node_names ≡ node_names_of statements
  pub messages : IsLookupOf nat_cmp l.messages (numbers_of statements)
  pub signal_keys : List (ℕ × Bor (List ℕ))
  pub signals : IsLookupOf (λ (a b : ℕ × Bor (List ℕ)). ordering_then (nat_cmp a.0 b.0) (text_cmp a.1.now b.1.now))
      l.signals signal_keys
  pub keys : map key_of signal_keys ≡ signal_keys_of statements

-- the index of a node, of a message and of a signal, or none if the file has no such thing

abbrev pub IsNodeIndex : List Statement → List ℕ → Option ℕ → Type 0
IsNodeIndex statements name index = IsIndexIn (λ n. bytes_eq n name) (node_names_of statements) index

abbrev pub IsMessageIndex : List Statement → Cited → Option ℕ → Type 0
IsMessageIndex statements None index = index ≡ None
IsMessageIndex statements (Some number) index = IsIndexIn (λ n. n == number) (numbers_of statements) index

-- among the signals of these messages
abbrev pub IsSignalIn : List MessageLine → Cited → List ℕ → Option ℕ → Type 0
IsSignalIn messages None name index = index ≡ None
IsSignalIn messages (Some number) name index =
    IsIndexIn (λ key. same_signal key (number, name)) (flat_map keys_of messages) index

abbrev pub IsSignalIndex : List Statement → Cited → List ℕ → Option ℕ → Type 0
IsSignalIndex statements number name index = IsSignalIn (messages_of statements) number name index

-- the index of what a statement cites
abbrev pub IsCitedIndex : List Statement → Content → Option ℕ → Type 0
IsCitedIndex statements (NodeCommentIs name text) index = IsNodeIndex statements name index
IsCitedIndex statements (MessageCommentIs cited text) index = IsMessageIndex statements cited index
IsCitedIndex statements (SignalCommentIs cited name text) index = IsSignalIndex statements cited name index
IsCitedIndex statements (ValueTextsAre cited name texts) index = IsSignalIndex statements cited name index
IsCitedIndex statements (ValueTypeIs cited name value_type) index = IsSignalIndex statements cited name index
IsCitedIndex statements (SpnIs cited name spn) index = IsSignalIndex statements cited name index
IsCitedIndex statements content index = ⊤

-- the index of what each statement cites
abbrev pub AreCitedIndices : List Statement → List Statement → List (Option ℕ) → Type 0
AreCitedIndices all [] [] = ⊤
AreCitedIndices all [] (index ∷ indices) = ⊥
AreCitedIndices all (s ∷ statements) [] = ⊥
AreCitedIndices all (s ∷ statements) (index ∷ indices) = IsCitedIndex all s.content index
    × AreCitedIndices all statements indices
