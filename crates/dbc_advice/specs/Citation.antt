-- What a statement cites, and whether a sheet has it.
use Rattle.std.specs.Prelude.{ℕ, ◌&&◌, Bool, false, not, is_none, List, [], ◌∷◌, ◌++◌, Option, Some, None, codes, drop}
use Rattle.std.specs.Prelude.{length, min, if◌then◌else◌}
use Rattle.std.specs.Option.{option_and_then, option_map_or}
use Rattle.std.specs.Str.{bytes_eq}
use Rattle.base.specs.WholeNumber.{whole_of}
use Rattle.dbc_words.specs.Keyword.{keyword_of, keyword_text}
use Rattle.dbc_words.specs.Named.{has_name}
use Rattle.dbc_words.specs.declared.keyword.Keyword.{Keyword}
use Rattle.dbc_words.specs.declared.keyword.Keyword.TheVariants as key
use Rattle.dbc_grammar.specs.Fields.{is_a}
use Rattle.dbc_grammar.specs.Lexing.{lexed}
use Rattle.dbc_sheet.specs.Messages.{message_at}
use Rattle.dbc_sheet.specs.Sheet.{node_name}
use Rattle.dbc_sheet.specs.Signals.{signal_name}
use Rattle.dbc_grammar.specs.Token.{Token}
use Rattle.dbc_sheet.specs.declared.message.Message.{Message}
use Rattle.dbc_sheet.specs.declared.sheet.Sheet.{Sheet}
use Rattle.dbc_grammar.specs.declared.token.TokenKind.TheVariants.{Number}
use Rattle.dbc_advice.specs.declared.citation.Citation.{Citation}
use Rattle.dbc_advice.specs.declared.citation.Citation.TheVariants as citing

-- what is cited: a node by its name, a message by the digits of its number, or a signal by those of its message and its
-- name
pub data Cited : Type 0 where
  OfNode : List ℕ → Cited
  OfMessage : List ℕ → Cited
  OfSignal : List ℕ → List ℕ → Cited

abbrev pub cited_of : Citation → Cited
cited_of (citing.Node name) = OfNode name.now
cited_of (citing.Message number) = OfMessage number.now
cited_of (citing.Signal number name) = OfSignal number.now name.now

-- ---- what the tokens of a statement cite

abbrev pub cited_node : List Token → Option Cited
cited_node [] = None
cited_node (name ∷ rest) = Some (OfNode name.text)

abbrev pub cited_number : List Token → Option Cited
cited_number [] = None
cited_number (number ∷ rest) = Some (OfMessage number.text)

-- `NUMBER NAME`
abbrev pub cited_signal : List Token → Option Cited
cited_signal [] = None
cited_signal (number ∷ []) = None
cited_signal (number ∷ (name ∷ rest)) = if is_a Number number then Some (OfSignal number.text name.text) else None

-- of a comment: `BU_ NAME`, `BO_ NUMBER` or `SG_ NUMBER NAME`
abbrev pub cited_by_kind : Option Keyword → List Token → Option Cited
cited_by_kind (Some key.Nodes) rest = cited_node rest
cited_by_kind (Some key.Message) rest = cited_number rest
cited_by_kind (Some key.Signal) rest = cited_signal rest
cited_by_kind kind rest = None

abbrev pub cited_by_comment : List Token → Option Cited
cited_by_comment [] = None
cited_by_comment (kind ∷ rest) = cited_by_kind (keyword_of kind.text) rest

-- of a value of the attribute `SPN`: `"SPN" SG_ NUMBER NAME`
abbrev pub cited_by_spn : List Token → Option Cited
cited_by_spn [] = None
cited_by_spn (attribute ∷ []) = None
cited_by_spn (attribute ∷ (kind ∷ rest)) =
    if bytes_eq attribute.text (codes "\"SPN\"") && bytes_eq kind.text (keyword_text key.Signal) then cited_signal rest
    else None

abbrev pub cited_by_statement : Option Keyword → List Token → Option Cited
cited_by_statement (Some key.Comment) rest = cited_by_comment rest
cited_by_statement (Some key.ValueTexts) rest = cited_signal rest
cited_by_statement (Some key.SignalValueType) rest = cited_signal rest
cited_by_statement (Some key.AttributeValue) rest = cited_by_spn rest
cited_by_statement keyword rest = None

abbrev pub cited_by : List Token → Option Cited
cited_by [] = None
cited_by (keyword ∷ rest) = cited_by_statement (keyword_of keyword.text) rest

-- what the statement at the offset of the text cites
abbrev pub citation_at : List ℕ → ℕ → Option Cited
citation_at text at = cited_by (lexed (min at (length text)) (drop at text)).tokens

-- ---- whether a sheet has it

-- the message of the number that the digits write
abbrev pub cited_message : Sheet → List ℕ → Option Message
cited_message s number = option_and_then (message_at s.messages) (whole_of number)

-- whether that message has a signal of the name
abbrev pub has_signal : Sheet → List ℕ → List ℕ → Bool
has_signal s number name = option_map_or (λ (m : Message). has_name signal_name m.signals name) (cited_message s number)
    false

abbrev pub is_missing : Sheet → Cited → Bool
is_missing s (OfNode name) = not (has_name node_name s.nodes name)
is_missing s (OfMessage number) = is_none (cited_message s number)
is_missing s (OfSignal number name) = not (has_signal s number name)

-- ---- what is stated of it

abbrev pub cited_text : Cited → List ℕ
cited_text (OfNode name) = codes "it is about node " ++ name
cited_text (OfMessage number) = codes "it is about message " ++ number
cited_text (OfSignal number name) = codes "it is about signal " ++ (name ++ (codes " of message " ++ number))

abbrev pub citation_text : Cited → List ℕ
citation_text cited = cited_text cited ++ codes ", which isn't in the file"
