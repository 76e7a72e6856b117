-- Computed rows of the faults of a text.
use Rattle.dbc_read.proofs.Common.{◌≡◌, ℕ, List, [], ◌∷◌, Some, inl, inr, refl, arith, codes, Nodes, StrayByte, Token}
use Rattle.dbc_read.proofs.Common.{tokens_without_fault, ReadFault, NodeName, is_divided, no_tokens}
use Rattle.std.specs.List.{IsDistinct}
use Rattle.dbc_words.specs.Name.{is_name}
use Rattle.dbc_grammar.specs.Lexing.{first_token, lexed, lexed_in, token_at, word_len}
use Rattle.dbc_grammar.specs.Parsing.{further_at, line_at, nodes_at, nodes_line_at, no_names_at, some_names_at}
use Rattle.dbc_grammar.specs.Parsing.{statement_at, statements_at}
use Rattle.dbc_grammar.specs.Statement as dbc
use Rattle.dbc_grammar.specs.declared.token.TokenKind.TheVariants.{Mark, Name}
use Rattle.dbc_lex.specs.declared.fault.ReadCode.TheVariants as code
use Rattle.dbc_read.specs.Faults.{IsFault, definition, node}
use Rattle.dbc_read.specs.Gathered.{AreGathered}
use Rattle.dbc_read.specs.Reading.{HasFault, IsFaultOfText}
use Rattle.dbc_read.specs.declared.gathered.Gathered.{Gathered}
use Rattle.dbc_read.proofs.GatheringRows.{nothing}

-- no token begins with the only byte of this text, so it isn't a sequence of statements
stray_byte : HasFault (codes "#") (record { code = code.StrayByte; at = 0 })
unfolding lexed lexed_in first_token token_at
stray_byte = inl (no_tokens (codes "#") _ (StrayByte 0, refl, refl))

-- The text `BU_:A A` has one statement, and a fault, since its second node has the name of the first.

abbrev text : List ℕ
text = codes "BU_:A A"

abbrev tokens : List Token
tokens =
    record { kind = Name; start = 0; end = 3; text = codes "BU_" }
    ∷ record { kind = Mark; start = 3; end = 4; text = codes ":" }
    ∷ record { kind = Name; start = 4; end = 5; text = codes "A" }
    ∷ record { kind = Name; start = 6; end = 7; text = codes "A" } ∷ []

abbrev stated : List dbc.Statement
stated = record { start = 0; keyword = Nodes; content = dbc.NodesAre (codes "A" ∷ codes "A" ∷ []) } ∷ []

text_has_tokens : lexed 0 text ≡ tokens_without_fault tokens
unfolding lexed lexed_in first_token token_at word_len
text_has_tokens = refl

tokens_are_stated : statements_at tokens ≡ Some stated
unfolding statements_at statement_at line_at nodes_line_at nodes_at some_names_at no_names_at further_at is_name
tokens_are_stated = refl

abbrev node_at : ℕ → NodeName
node_at offset = record { at = offset; name = codes "A" }

abbrev gathered : Gathered
gathered = record nothing { nodes = node_at 4 ∷ node_at 6 ∷ []; node_comments = [] ∷ [] ∷ [] }

nodes_are_gathered : AreGathered stated gathered
nodes_are_gathered = record {
  version = refl;
  comment = refl;
  nodes = refl;
  tables = refl;
  messages = refl;
  node_comments = λ distinct. refl;
  message_comments = λ distinct. refl;
  signal_comments = λ distinct. refl;
  signal_values = λ distinct. refl;
  signal_types = λ distinct. refl;
  signal_spns = λ distinct. refl;
  passed = refl;
}

abbrev double_name : ReadFault
double_name = record { code = code.DoubleName; at = 6 }

second_node_refused : IsFault gathered double_name
unfolding IsDistinct
second_node_refused = definition
    (node (record {
      before = node_at 4 ∷ [];
      item = node_at 6;
      after = [];
      parts = refl;
      at = refl;
      refused =
          ((tt, tt), omega arith, refl);
    }))

double_node : IsFaultOfText text double_name
double_node = record {
  gathered = gathered;
  of = record {
    stated = stated;
    divided = is_divided text tokens text_has_tokens stated tokens_are_stated;
    gathered =
        nodes_are_gathered;
  };
  is = second_node_refused;
}

-- so the text has this fault
has_double_name : HasFault text double_name
has_double_name = inr double_node
