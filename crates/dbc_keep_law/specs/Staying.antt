-- Which skipped statements of a source stay in the text of another sheet, as a release of the same network: those that
-- cite only nodes, messages and signals that the sheet has. A statement that would say something of what the sheet has
-- doesn't stay either, since the sheet says that itself. What a statement cites is that of Vector's DBC File Format
-- Documentation.
use Rattle.std.specs.Prelude.{◌&&◌, ℕ, Bool, true, false, not, List, [], ◌∷◌, map, drop, Option, Some, None}
use Rattle.std.specs.Prelude.{codes, is_some, option_and_then, if◌then◌else◌}
use Rattle.std.specs.List.{flat_map}
use Rattle.std.specs.Str.{bytes_eq}
use Rattle.base.specs.WholeNumber.{whole_of}
use Rattle.dbc_words.specs.Name.{no_node}
use Rattle.dbc_words.specs.Named.{has_name}
use Rattle.dbc_words.specs.declared.keyword.Keyword.{Keyword}
use Rattle.dbc_words.specs.declared.keyword.Keyword.TheVariants.{
  AttributeValue,
  Category,
  Comment,
  MessageTransmitters,
  RelationAttributeValue,
  SignalGroup,
  SignalTypeReference,
  SignalValueType,
  ValueTexts,
}
use Rattle.dbc_sheet.specs.Messages.{message_at}
use Rattle.dbc_sheet.specs.Sheet.{node_name}
use Rattle.dbc_sheet.specs.Signals.{signal_name}
use Rattle.dbc_sheet.specs.declared.message.Message.{Message}
use Rattle.dbc_sheet.specs.declared.sheet.Sheet.{Sheet}
use Rattle.dbc_grammar.specs.Canon.{Line, Piece}
use Rattle.dbc_grammar.specs.Fields.{same_kind}
use Rattle.dbc_grammar.specs.Inside.{inside_of}
use Rattle.dbc_grammar.specs.declared.token.TokenKind.{TokenKind}
use Rattle.dbc_grammar.specs.declared.token.TokenKind.TheVariants.{Name, Text}
use Rattle.dbc_keep_law.specs.Passages.{Passage}
use Rattle.dbc_keep_law.specs.declared.reason.LeavingReason.{LeavingReason}
use Rattle.dbc_keep_law.specs.declared.reason.LeavingReason.TheVariants.{NoMessage, NoNode, NoSignal, SheetSays}

-- Words.

pub record Word : Type 0 where
  pub kind : TokenKind
  pub text : List ℕ

abbrev pub word_of : Piece → Word
word_of p = record { kind = p.kind; text = p.text }

-- those after the keyword
abbrev pub words_of : Line → List Word
words_of line = map word_of (drop 1 line)

abbrev pub is_word : List ℕ → Word → Bool
is_word text w = bytes_eq w.text text

abbrev pub is_name_word : Word → Bool
is_name_word w = same_kind Name w.kind

-- the first word passes the test
abbrev pub first_word : (Word → Bool) → List Word → Bool
first_word test [] = false
first_word test (w ∷ ws) = test w

-- What is cited.

-- a node by its name, a message by its number as it is spelled, and a signal by both
pub data Citation : Type 0 where
  CitesNode : List ℕ → Citation
  CitesMessage : List ℕ → Citation
  CitesSignal : List ℕ → List ℕ → Citation

-- `number signal`
abbrev pub signal_first : List Word → List Citation
signal_first (a ∷ b ∷ ws) = CitesSignal a.text b.text ∷ []
signal_first ws = []

-- `BU_ node`, `BO_ number` or `SG_ number signal`; nothing if none of them comes first
abbrev pub object : List Word → List Citation
object (w ∷ a ∷ b ∷ ws) =
    if is_word (codes "BU_") w then CitesNode a.text ∷ []
    else (if is_word (codes "BO_") w then CitesMessage a.text ∷ []
    else (if is_word (codes "SG_") w then CitesSignal a.text b.text ∷ []
    else []))
object ws = []

-- `BU_SG_REL_ node SG_ number signal`, `BU_BO_REL_ node number` or `BU_EV_REL_ node variable`
abbrev pub relation : List Word → List Citation
relation (w ∷ node ∷ a ∷ ws) =
    if is_word (codes "BU_SG_REL_") w then CitesNode node.text ∷ signal_first ws
    else (if is_word (codes "BU_BO_REL_") w then CitesNode node.text ∷ CitesMessage a.text ∷ []
    else (if is_word (codes "BU_EV_REL_") w then CitesNode node.text ∷ []
    else []))
relation ws = []

-- a node, by a name other than the one that means none
abbrev pub node_cited : Word → List Citation
node_cited w = if is_name_word w && not (is_word no_node w) then CitesNode w.text ∷ [] else []

-- a signal of the message, by a name
abbrev pub signal_cited : List ℕ → Word → List Citation
signal_cited number w = if is_name_word w then CitesSignal number w.text ∷ [] else []

-- `number : node , node`
abbrev pub transmitters : List Word → List Citation
transmitters [] = []
transmitters (n ∷ ws) = CitesMessage n.text ∷ flat_map node_cited ws

-- `number group repetitions : signal signal`
abbrev pub group : List Word → List Citation
group (n ∷ name ∷ ws) = CitesMessage n.text ∷ flat_map (signal_cited n.text) ws
group ws = []

-- what a statement of the keyword cites, by the words after it
abbrev pub cites : Keyword → List Word → List Citation
cites Comment ws = object ws
cites AttributeValue ws = object (drop 1 ws)
cites RelationAttributeValue ws = relation (drop 1 ws)
cites MessageTransmitters ws = transmitters ws
cites SignalGroup ws = group ws
cites SignalTypeReference ws = signal_first ws
cites ValueTexts ws = if first_word is_name_word ws then [] else signal_first ws
cites SignalValueType ws = signal_first ws
cites Category ws = object ws
cites k ws = []

-- What of that the sheet doesn't have.

abbrev pub message_cited : Sheet → List ℕ → Option Message
message_cited s number = option_and_then (message_at s.messages) (whole_of number)

abbrev pub signal_absent : Option Message → List ℕ → Option LeavingReason
signal_absent None name = Some NoMessage
signal_absent (Some m) name = if has_name signal_name m.signals name then None else Some NoSignal

abbrev pub absent : Sheet → Citation → Option LeavingReason
absent s (CitesNode name) = if has_name node_name s.nodes name then None else Some NoNode
absent s (CitesMessage number) = if is_some (message_cited s number) then None else Some NoMessage
absent s (CitesSignal number name) = signal_absent (message_cited s number) name

abbrev pub or_else : Option LeavingReason → Option LeavingReason → Option LeavingReason
or_else None other = other
or_else (Some r) other = Some r

abbrev pub first_absent : Sheet → List Citation → Option LeavingReason
first_absent s [] = None
first_absent s (c ∷ cs) = or_else (absent s c) (first_absent s cs)

-- What says something of it.

-- `"SPN" SG_`
abbrev pub says_spn : List Word → Bool
says_spn (a ∷ w ∷ ws) =
    (same_kind Text a.kind && bytes_eq (inside_of a.text) (codes "SPN")) && is_word (codes "SG_") w
says_spn ws = false

-- Whether a statement of the keyword says something of the node, message or signal that it cites: a comment, unless it
-- is of an environment variable; texts of values, unless they are of one; a value type; and a suspect parameter number.
abbrev pub says : Keyword → List Word → Bool
says Comment ws = not (first_word (is_word (codes "EV_")) ws)
says ValueTexts ws = not (first_word is_name_word ws)
says SignalValueType ws = true
says AttributeValue ws = says_spn ws
says k ws = false

-- why the statement doesn't stay; None if it does
abbrev pub reason_by : Sheet → Keyword → List Word → Option LeavingReason
reason_by s k ws = or_else (first_absent s (cites k ws)) (if says k ws then Some SheetSays else None)

abbrev pub reason : Sheet → Passage → Option LeavingReason
reason s p = reason_by s p.keyword (words_of p.line)

abbrev pub stays : Sheet → Passage → Bool
stays s p = not (is_some (reason s p))
