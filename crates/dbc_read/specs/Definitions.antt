-- The definitions of a text: the nodes, value tables and messages of its statements, without what others say.
use Rattle.std.specs.Prelude.{◌≡◌, ◌++◌, ℕ, Bool, true, false, nat_lt, List, Some, length, map}
use Rattle.std.specs.List.{AllByRecursion}
use Rattle.dbc_words.specs.Limits.{value_text_limit}
use Rattle.dbc_grammar.specs.Parsing.{statements_at}
use Rattle.dbc_grammar.specs.Saying.{each_in, messages_of, node_names_of, table_in}
use Rattle.dbc_grammar.specs.Statement as dbc
use Rattle.dbc_grammar.specs.Token.{Token}
use Rattle.dbc_sheet.specs.WellFormed.{AreFewTexts}
use Rattle.dbc_lex.specs.declared.fault.ReadFault.{ReadFault}
use Rattle.dbc_read.specs.Faults.{IsFaultOfDefinitions}
use Rattle.dbc_read.specs.Gathering.{IsOfText}
use Rattle.dbc_read.specs.declared.gathered.Gathered.{Gathered}
use Rattle.dbc_statements.specs.Division.{IsDivided}
use Rattle.dbc_statements.specs.Parts.{table_of}
use Rattle.dbc_statements.specs.Statement.{message_of, names_of}

-- a statement of this content defines nodes, a value table or a message
abbrev pub is_definition : dbc.Content → Bool
is_definition (dbc.NodesAre names) = true
is_definition (dbc.TableIs name entries) = true
is_definition (dbc.MessageIs line) = true
is_definition content = false

-- it has more texts for the values of a signal than one can have
abbrev pub has_many_texts : dbc.Content → Bool
has_many_texts (dbc.ValueTextsAre cited name texts) = nat_lt value_text_limit (length texts)
has_many_texts content = false

-- none of the statements has
abbrev pub HaveFewTexts : List dbc.Statement → Type 0
HaveFewTexts statements = AllByRecursion (λ (s : dbc.Statement). has_many_texts s.content ≡ false) statements

-- the nodes, value tables and messages that are gathered are those that the statements define
pub record AreDefinitions (statements : List dbc.Statement) (g : Gathered) : Type 0 where
  pub nodes : names_of g.nodes ≡ node_names_of statements
  pub tables : map table_of g.tables ≡ each_in table_in statements
  pub messages : map message_of g.messages ≡ messages_of statements

-- they are those of all statements of the tokens, none of which has too many texts
pub record AreDefinitionsOfTokens (tokens : List Token) (g : Gathered) : Type 0 where
  pub stated : List dbc.Statement
  pub read : statements_at tokens ≡ Some stated
  pub few : HaveFewTexts stated
  pub are : AreDefinitions stated g

-- what the statements that are left define is gathered too, none of which has too many texts
pub record DefineFurther (tokens : List Token) (old new : Gathered) : Type 0 where
  pub stated : List dbc.Statement
  pub read : statements_at tokens ≡ Some stated
  pub few : HaveFewTexts stated
  pub are : (before : List dbc.Statement) → AreDefinitions before old → AreDefinitions (before ++ stated) new

-- some statement of the tokens has too many texts, if they are those of statements
abbrev pub TokensHaveManyTexts : List Token → Type 0
TokensHaveManyTexts tokens = (stated : List dbc.Statement) → statements_at tokens ≡ Some stated → ¬ HaveFewTexts stated

-- the same of a text
abbrev pub HasManyTexts : List ℕ → Type 0
HasManyTexts bytes = (stated : List dbc.Statement) → IsDivided bytes stated → ¬ HaveFewTexts stated

-- the fault is one of the text's definitions, where no signal has too many texts
pub record IsDefinitionFault (bytes : List ℕ) (fault : ReadFault) : Type 0 where
  pub gathered : Gathered
  pub of : IsOfText bytes gathered
  pub is : IsFaultOfDefinitions gathered fault
  pub values : AllByRecursion AreFewTexts gathered.signal_values
