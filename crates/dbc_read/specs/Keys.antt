-- The keys of nodes, messages and signals, which hold references, and the keys of the definitions that they mean.
use Rattle.std.specs.Prelude.{◌≡◌, ℕ, List, map}
use Rattle.std.specs.Borrow.{Bor}
use Rattle.dbc_grammar.specs.Saying.{SignalKey, node_names_of, numbers_of, signal_keys_of}
use Rattle.dbc_grammar.specs.Statement.{Statement}
use Rattle.dbc_read.specs.declared.keys.Keys.{Keys}

abbrev pub text_of : Bor (List ℕ) → List ℕ
text_of b = b.now

-- a message's number with the name of a signal
abbrev pub key_of : ℕ × Bor (List ℕ) → SignalKey
key_of k = (k.0, k.1.now)

pub record AreKeys (k : Keys) (statements : List Statement) : Type 0 where
  pub nodes : map text_of k.nodes.items ≡ node_names_of statements
  pub messages : k.messages.items ≡ numbers_of statements
  pub signals : map key_of k.signals.items ≡ signal_keys_of statements
