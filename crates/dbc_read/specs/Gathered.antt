-- The contents of statements by kind: what one more statement adds, and what is gathered of all of them.
use Rattle.std.specs.Prelude.{◌≡◌, ℕ, nat_eq, List, [], ◌∷◌, ◌++◌, map, Option, Some, None, length, replicate}
use Rattle.std.specs.Prelude.{slice_set}
use Rattle.std.specs.List.{IsDistinct, last_or}
use Rattle.std.specs.Str.{bytes_eq}
use Rattle.dbc_words.specs.declared.value_type.ValueType.TheVariants.{Integer}
use Rattle.dbc_grammar.specs.Saying.{comment_in, each_in, last_value_of, message_comment_in, messages_of}
use Rattle.dbc_grammar.specs.Saying.{node_comment_in, node_names_of, numbers_of, passed_by, same_signal}
use Rattle.dbc_grammar.specs.Saying.{signal_comment_in, signal_keys_of, spn_in, table_in, value_texts_in, value_type_in}
use Rattle.dbc_grammar.specs.Saying.{version_in}
use Rattle.dbc_grammar.specs.Statement as dbc
use Rattle.dbc_read.specs.Lookups.{AreCitedIndices}
use Rattle.dbc_read.specs.Passed.{start_and_keyword}
use Rattle.dbc_read.specs.declared.gathered.Gathered.{Gathered}
use Rattle.dbc_read.specs.declared.passed.Passed.{Passed}
use Rattle.dbc_statements.specs.Parts.{table_of}
use Rattle.dbc_statements.specs.Statement.{message_of, names_of}
use Rattle.dbc_statements.specs.declared.statement.Content.{Content}
use Rattle.dbc_statements.specs.declared.statement.Content.TheVariants as content
use Rattle.dbc_statements.specs.declared.statement.Statement.{Statement}

-- the list with the value at the index, if there is one
abbrev pub set_at : {V : Type 0} → Option ℕ → V → List V → List V
set_at None v vs = vs
set_at (Some i) v vs = slice_set vs i v

-- a statement that cites what has no index is skipped
abbrev pub passed_after : Option ℕ → Passed → List Passed → List Passed
passed_after None p passed = passed ++ p ∷ []
passed_after (Some i) p passed = passed

-- what is gathered after a statement of this content; the index is that of what it cites
abbrev pub gathered_after : Option ℕ → Passed → Content → Gathered → Gathered
gathered_after index p (content.Version text) g = record g { version = Some text }
gathered_after index p (content.Comment text) g = record g { comment = Some text }
gathered_after index p (content.Nodes nodes) g = record g { nodes = g.nodes ++ nodes.items }
gathered_after index p (content.Table line) g = record g { tables = g.tables ++ line.value ∷ [] }
gathered_after index p (content.Message line) g = record g { messages = g.messages ++ line.value ∷ [] }
gathered_after index p (content.NodeComment name text) g =
    record g { node_comments = set_at index text g.node_comments; passed = passed_after index p g.passed }
gathered_after index p (content.MessageComment cited text) g =
    record g { message_comments = set_at index text g.message_comments; passed = passed_after index p g.passed }
gathered_after index p (content.SignalComment cited text) g =
    record g { signal_comments = set_at index text g.signal_comments; passed = passed_after index p g.passed }
gathered_after index p (content.ValueTexts cited entries) g =
    record g { signal_values = set_at index entries g.signal_values; passed = passed_after index p g.passed }
gathered_after index p (content.ValueType cited value_type) g =
    record g { signal_types = set_at index value_type g.signal_types; passed = passed_after index p g.passed }
gathered_after index p (content.Spn cited spn) g =
    record g { signal_spns = set_at index spn g.signal_spns; passed = passed_after index p g.passed }
gathered_after index p content.Dropped g = g
gathered_after index p content.PassedOver g = record g { passed = g.passed ++ p ∷ [] }

abbrev pub passed_of : Statement → Passed
passed_of s = record { at = s.start; keyword = s.keyword }

-- what is gathered before any of these statements
pub record IsNothing (statements : List dbc.Statement) (g : Gathered) : Type 0 where
  pub version : g.version ≡ None
  pub comment : g.comment ≡ None
  pub nodes : g.nodes ≡ []
  pub tables : g.tables ≡ []
  pub messages : g.messages ≡ []
  pub node_comments : g.node_comments ≡ replicate (length (node_names_of statements)) []
  pub message_comments : g.message_comments ≡ replicate (length (numbers_of statements)) []
  pub signal_comments : g.signal_comments ≡ replicate (length (signal_keys_of statements)) []
  pub signal_values : g.signal_values ≡ replicate (length (signal_keys_of statements)) []
  pub signal_types : g.signal_types ≡ replicate (length (signal_keys_of statements)) Integer
  pub signal_spns : g.signal_spns ≡ replicate (length (signal_keys_of statements)) 0
  pub passed : g.passed ≡ []

-- nothing is gathered of the statements yet, and these are the indices of what they cite
pub record IsBeginning (statements : List dbc.Statement) (g : Gathered) (found : List (Option ℕ)) : Type 0 where
  pub nothing : IsNothing statements g
  pub indices : AreCitedIndices statements statements found

-- The contents of all the statements. What is attached to a thing is at its index, if no two things have the same key.
pub record AreGathered (statements : List dbc.Statement) (g : Gathered) : Type 0 where
  pub version : g.version ≡ last_or None (each_in version_in statements)
  pub comment : g.comment ≡ last_or None (each_in comment_in statements)
  pub nodes : names_of g.nodes ≡ node_names_of statements
  pub tables : map table_of g.tables ≡ each_in table_in statements
  pub messages : map message_of g.messages ≡ messages_of statements
  pub node_comments : IsDistinct bytes_eq (node_names_of statements)
      → g.node_comments ≡ map (λ name. last_value_of bytes_eq name [] node_comment_in statements)
      (node_names_of statements)
  pub message_comments : IsDistinct nat_eq (numbers_of statements)
      → g.message_comments ≡ map (λ number. last_value_of nat_eq number [] message_comment_in statements)
      (numbers_of statements)
  pub signal_comments : IsDistinct same_signal (signal_keys_of statements)
      → g.signal_comments ≡ map (λ key. last_value_of same_signal key [] signal_comment_in statements)
      (signal_keys_of statements)
  pub signal_values : IsDistinct same_signal (signal_keys_of statements)
      → g.signal_values ≡ map (λ key. last_value_of same_signal key [] value_texts_in statements)
      (signal_keys_of statements)
  pub signal_types : IsDistinct same_signal (signal_keys_of statements)
      → g.signal_types ≡ map (λ key. last_value_of same_signal key Integer value_type_in statements)
      (signal_keys_of statements)
  pub signal_spns : IsDistinct same_signal (signal_keys_of statements)
      → g.signal_spns ≡ map (λ key. last_value_of same_signal key 0 spn_in statements) (signal_keys_of statements)
  pub passed : map start_and_keyword g.passed ≡ passed_by statements
