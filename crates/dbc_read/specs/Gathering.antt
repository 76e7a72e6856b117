-- Gathering what one statement after the other says: what is gathered so far and what is left to say is all that the
-- statements say.
use Rattle.std.specs.Prelude.{◌≡◌, ℕ, nat_eq, Bool, true, false, List, [], ◌∷◌, ◌++◌, map, filter, Option, Some, None}
use Rattle.std.specs.Prelude.{length, replicate, unwrap_or, IfSome}
use Rattle.std.specs.List.{AllByRecursion, IsDistinct, last_or}
use Rattle.std.specs.Option.{option_map}
use Rattle.std.specs.Str.{bytes_eq}
use Rattle.dbc_words.specs.declared.keyword.Keyword.{Keyword}
use Rattle.dbc_words.specs.declared.value_type.ValueType.TheVariants.{Integer}
use Rattle.dbc_grammar.specs.Parsing.{statements_at}
use Rattle.dbc_grammar.specs.Saying.{comment_in, each_in, is_passed, last_at, last_value_of, message_comment_in}
use Rattle.dbc_grammar.specs.Saying.{messages_of, node_comment_in, node_names_of, numbers_of, passed_by, same_signal}
use Rattle.dbc_grammar.specs.Saying.{signal_comment_in, signal_keys_of, spn_in, table_in, value_texts_in, value_type_in}
use Rattle.dbc_grammar.specs.Saying.{version_in}
use Rattle.dbc_grammar.specs.Statement as dbc
use Rattle.dbc_grammar.specs.Token.{Token}
use Rattle.dbc_read.specs.Attaching.{all_signals, cites_signal, with_attached}
use Rattle.dbc_read.specs.Finding.{Finds}
use Rattle.dbc_read.specs.Gathered.{AreGathered, gathered_after}
use Rattle.dbc_read.specs.Lookups.{IsCitedIndex}
use Rattle.dbc_read.specs.Passed.{start_and_keyword}
use Rattle.dbc_read.specs.declared.finding.Finders.{Finders}
use Rattle.dbc_read.specs.declared.gathered.Gathered.{Gathered}
use Rattle.dbc_read.specs.declared.passed.Passed.{Passed}
use Rattle.dbc_statements.specs.Division.{IsDivided}
use Rattle.dbc_statements.specs.Parts.{table_of}
use Rattle.dbc_statements.specs.Statement.{HaveNothingAttached, content_of, message_of, names_of, statement_of}
use Rattle.dbc_statements.specs.declared.statement.Content.{Content}
use Rattle.dbc_statements.specs.declared.statement.MessageLine.{MessageLine}
use Rattle.dbc_statements.specs.declared.statement.NodeName.{NodeName}
use Rattle.dbc_statements.specs.declared.statement.Statement.{Statement}

-- Values of keys, each the last one of the pairs so far, once the pairs that are left are added.
module _ {K V : Type 0} (same : K → K → Bool) (d : V) where
  abbrev pub finished : List (K × V) → List K → List V → List V
  finished ps [] vs = vs
  finished ps (k ∷ ks) [] = []
  finished ps (k ∷ ks) (v ∷ vs) = unwrap_or (last_at same k (Some v) ps) d ∷ finished ps ks vs

abbrev pub passed_pair : dbc.Statement → ℕ × Keyword
passed_pair s = (s.start, s.keyword)

-- those of the rest that are skipped
abbrev pub passed_in : List dbc.Statement → List dbc.Statement → List (ℕ × Keyword)
passed_in all rest = map passed_pair (filter (λ (s : dbc.Statement). is_passed all s.content) rest)

-- What is gathered, and what is left to say, are all that the statements say.
pub record Gathers (all : List dbc.Statement) (g : Gathered) (rest : List dbc.Statement) : Type 0 where
  pub version : last_or g.version (each_in version_in rest) ≡ last_or None (each_in version_in all)
  pub comment : last_or g.comment (each_in comment_in rest) ≡ last_or None (each_in comment_in all)
  pub nodes : names_of g.nodes ++ node_names_of rest ≡ node_names_of all
  pub tables : map table_of g.tables ++ each_in table_in rest ≡ each_in table_in all
  pub messages : map message_of g.messages ++ messages_of rest ≡ messages_of all
  pub node_comments : IsDistinct bytes_eq (node_names_of all)
      → finished bytes_eq [] (each_in node_comment_in rest) (node_names_of all) g.node_comments
      ≡ map (λ name. last_value_of bytes_eq name [] node_comment_in all) (node_names_of all)
  pub message_comments : IsDistinct nat_eq (numbers_of all)
      → finished nat_eq [] (each_in message_comment_in rest) (numbers_of all) g.message_comments
      ≡ map (λ number. last_value_of nat_eq number [] message_comment_in all) (numbers_of all)
  pub signal_comments : IsDistinct same_signal (signal_keys_of all)
      → finished same_signal [] (each_in signal_comment_in rest) (signal_keys_of all) g.signal_comments
      ≡ map (λ key. last_value_of same_signal key [] signal_comment_in all) (signal_keys_of all)
  pub signal_values : IsDistinct same_signal (signal_keys_of all)
      → finished same_signal [] (each_in value_texts_in rest) (signal_keys_of all) g.signal_values
      ≡ map (λ key. last_value_of same_signal key [] value_texts_in all) (signal_keys_of all)
  pub signal_types : IsDistinct same_signal (signal_keys_of all)
      → finished same_signal Integer (each_in value_type_in rest) (signal_keys_of all) g.signal_types
      ≡ map (λ key. last_value_of same_signal key Integer value_type_in all) (signal_keys_of all)
  pub signal_spns : IsDistinct same_signal (signal_keys_of all)
      → finished same_signal 0 (each_in spn_in rest) (signal_keys_of all) g.signal_spns
      ≡ map (λ key. last_value_of same_signal key 0 spn_in all) (signal_keys_of all)
  pub passed : map start_and_keyword g.passed ++ passed_in all rest ≡ passed_by all

-- Statements that come one by one. A statement defines a node or a message, or it cites one or a signal, or neither.

abbrev pub defines : dbc.Content → Bool
defines (dbc.NodesAre names) = true
defines (dbc.MessageIs line) = true
defines content = false

abbrev pub cites : dbc.Content → Bool
cites (dbc.NodeCommentIs name text) = true
cites (dbc.MessageCommentIs cited text) = true
cites (dbc.SignalCommentIs cited name text) = true
cites (dbc.ValueTextsAre cited name texts) = true
cites (dbc.ValueTypeIs cited name value_type) = true
cites (dbc.SpnIs cited name spn) = true
cites content = false

abbrev pub DefineNothing : List dbc.Statement → Type 0
DefineNothing statements = AllByRecursion (λ (s : dbc.Statement). defines s.content ≡ false) statements

-- no statement is gathered
pub record IsEmpty (g : Gathered) : Type 0 where
  pub version : g.version ≡ None
  pub comment : g.comment ≡ None
  pub nodes : g.nodes ≡ []
  pub tables : g.tables ≡ []
  pub messages : g.messages ≡ []
  pub passed : g.passed ≡ []

-- so many nodes, messages and signals have nothing attached
abbrev pub with_empty : ℕ → ℕ → ℕ → Gathered → Gathered
with_empty nodes messages signals g = record g {
  node_comments = replicate nodes [];
  message_comments = replicate messages [];
  signal_comments = replicate signals [];
  signal_values = replicate signals [];
  signal_types = replicate signals Integer;
  signal_spns = replicate signals 0;
}

-- those that the statements define
abbrev pub with_nothing_attached : List dbc.Statement → Gathered → Gathered
with_nothing_attached statements g = with_empty (length (node_names_of statements)) (length (numbers_of statements))
    (length (signal_keys_of statements)) g

-- these nodes and messages are gathered too
abbrev pub with_definitions : List NodeName → List MessageLine → Gathered → Gathered
with_definitions nodes messages g = record g { nodes = nodes; messages = messages }

-- the statements so far are gathered, whatever the rest is; they cite nothing
abbrev pub IsDefining : List dbc.Statement → Gathered → Type 0
IsDefining stated g = (rest : List dbc.Statement)
    → Gathers (stated ++ rest) (with_nothing_attached (stated ++ rest) g) rest

-- nothing is attached to the signals of each of the lines
abbrev pub AreBare : List MessageLine → Type 0
AreBare lines = AllByRecursion (λ (m : MessageLine). HaveNothingAttached m.signals.items) lines

-- so there is nothing in them for what is gathered
abbrev pub HaveNothing : List MessageLine → Type 0
HaveNothing lines = (g : Gathered) → with_attached lines g ≡ record g {
  signal_comments = replicate (length (all_signals lines)) [];
  signal_values = replicate (length (all_signals lines)) [];
  signal_types = replicate (length (all_signals lines)) Integer;
  signal_spns = replicate (length (all_signals lines)) 0;
}

-- these statements, which define nothing, are gathered where what they cite is found; what is attached to signals is in
-- the lines
abbrev pub Settles : Finders → List dbc.Statement → List MessageLine → Gathered → List MessageLine → Gathered → Type 0
Settles f more lines old new_lines new =
    (all rest : List dbc.Statement) (nodes : List NodeName) (messages : List MessageLine) → Finds f lines all
    → Gathers all (with_definitions nodes messages (with_attached lines old)) (more ++ rest)
    → Gathers all (with_definitions nodes messages (with_attached new_lines new)) rest

-- one statement is gathered, with the index of what its content cites, which is no signal
pub record IsGathered (f : Finders) (p : Passed) (c : Content) (old new : Gathered) : Type 0 where
  pub none : cites_signal c ≡ false
  pub index : Option ℕ
  pub is : (lines : List MessageLine) (statements : List dbc.Statement) → Finds f lines statements
      → IsCitedIndex statements (content_of c) index
  pub gathered : new ≡ gathered_after index p c old

-- Tokens that begin with these statements, and then the rest.
abbrev pub BeginWith : List dbc.Statement → List Token → List Token → Type 0
BeginWith stated tokens rest = statements_at tokens ≡ option_map (λ others. stated ++ others) (statements_at rest)

abbrev pub one_or_none : Option Statement → List dbc.Statement
one_or_none None = []
one_or_none (Some s) = statement_of s ∷ []

-- statements are gathered up to the first that cites something, or the last
pub record Defines (tokens rest : List Token) (old new : Gathered) (first : Option Statement) : Type 0 where
  pub stated : List dbc.Statement
  pub read : BeginWith (stated ++ one_or_none first) tokens rest
  pub cites : IfSome first (λ s. cites (content_of s.content) ≡ true)
  pub gathered : IsDefining [] old → IsDefining stated new

-- it is what all statements of the tokens say
pub record IsOfTokens (tokens : List Token) (g : Gathered) : Type 0 where
  pub stated : List dbc.Statement
  pub read : statements_at tokens ≡ Some stated
  pub gathered : AreGathered stated g

-- it is what all statements of the text say
pub record IsOfText (bytes : List ℕ) (g : Gathered) : Type 0 where
  pub stated : List dbc.Statement
  pub divided : IsDivided bytes stated
  pub gathered : AreGathered stated g
