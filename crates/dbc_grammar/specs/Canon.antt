-- The canonical text of a sheet, line after line (the statements of Vector's DBC File Format Documentation, in the one
-- order and spelling that this project writes).
use Rattle.std.specs.Prelude.{ℕ, ◌==◌, List, [], ◌∷◌, ◌++◌, map, unwrap_or, codes, unsigned_abs, if◌then◌else◌}
use Rattle.std.specs.Fmt.{decimal}
use Rattle.std.specs.Int.{is_negative}
use Rattle.std.specs.List.{flat_map}
use Rattle.bitlayout.specs.Mux.{indicator_of}
use Rattle.bitlayout.specs.Order.{order_number}
use Rattle.bitlayout.specs.declared.place.Mux.{Mux}
use Rattle.bitlayout.specs.declared.place.Mux.TheVariants.{Always}
use Rattle.decimal.specs.Number.{Number}
use Rattle.decimal.specs.Printing.{unsigned_text}
use Rattle.dbc_words.specs.Limits.{spn_limit}
use Rattle.dbc_words.specs.Name.{no_node}
use Rattle.dbc_words.specs.ValueType.{value_type_number}
use Rattle.dbc_sheet.specs.Messages.{number_of}
use Rattle.dbc_sheet.specs.declared.message.Message.{Message}
use Rattle.dbc_sheet.specs.declared.node.Node.{Node}
use Rattle.dbc_sheet.specs.declared.sheet.Sheet.{Sheet}
use Rattle.dbc_sheet.specs.declared.signal.Signal.{Signal}
use Rattle.dbc_grammar.specs.declared.token.TokenKind.{TokenKind}
use Rattle.dbc_grammar.specs.declared.token.TokenKind.TheVariants as kind
use Rattle.dbc_sheet.specs.declared.value_table.ValueTable.{ValueTable}
use Rattle.dbc_sheet.specs.declared.value_texts.ValueText.{ValueText}

-- a token of the text, and the gap before it in its line
pub record Piece : Type 0 where
  pub gap : List ℕ
  pub kind : TokenKind
  pub text : List ℕ

abbrev pub tight : List ℕ
tight = []

abbrev pub space : List ℕ
space = codes " "

abbrev pub word : List ℕ → List ℕ → Piece
word gap w = record { gap = gap; kind = kind.Name; text = w }

abbrev pub number : List ℕ → ℕ → Piece
number gap n = record { gap = gap; kind = kind.Number; text = decimal n }

abbrev pub mark : List ℕ → List ℕ → Piece
mark gap m = record { gap = gap; kind = kind.Mark; text = m }

abbrev pub quoted : List ℕ → List ℕ → Piece
quoted gap t = record { gap = gap; kind = kind.Text; text = codes "\"" ++ t ++ codes "\"" }

-- a decimal: a minus if it is negative, and its digits
abbrev pub value : List ℕ → Number → List Piece
value gap n =
    let digits = unsigned_text (unsigned_abs n.mantissa) n.exponent in
    if is_negative n.mantissa
    then mark gap (codes "-") ∷ record { gap = tight; kind = kind.Number; text = digits } ∷ []
    else record { gap = gap; kind = kind.Number; text = digits } ∷ []

abbrev pub Line : Type 0
Line = List Piece

-- VERSION "..", NS_ :, BS_:, BU_: and the nodes' names
abbrev pub version_line : Sheet → Line
version_line s = word tight (codes "VERSION") ∷ quoted space s.version ∷ []

abbrev pub symbols_line : Line
symbols_line = word tight (codes "NS_") ∷ mark space (codes ":") ∷ []

abbrev pub timing_line : Line
timing_line = word tight (codes "BS_") ∷ mark tight (codes ":") ∷ []

abbrev pub nodes_line : Sheet → Line
nodes_line s = word tight (codes "BU_") ∷ mark tight (codes ":") ∷ map (λ (n : Node). word space n.name) s.nodes

-- values with their texts, and ` ;`
abbrev pub entry : ValueText → List Piece
entry v = value space v.value ++ quoted space v.text ∷ []

abbrev pub entries : List ValueText → List Piece
entries vs = flat_map entry vs ++ mark space (codes ";") ∷ []

abbrev pub table_line : ValueTable → Line
table_line t = word tight (codes "VAL_TABLE_") ∷ word space t.name ∷ entries t.entries

-- BO_ number name: length transmitter
abbrev pub message_line : Message → Line
message_line m = word tight (codes "BO_") ∷ number space (number_of m) ∷ word space m.name ∷ mark tight (codes ":")
    ∷ number space m.length
    ∷ word space (unwrap_or m.transmitter no_node) ∷ []

abbrev pub mux_pieces : Mux → List Piece
mux_pieces Always = []
mux_pieces mux = word space (indicator_of mux) ∷ []

abbrev pub receiver_pieces : List (List ℕ) → List Piece
receiver_pieces [] = word space no_node ∷ []
receiver_pieces (r ∷ rs) = word space r ∷ flat_map (λ n. mark tight (codes ",") ∷ word tight n ∷ []) rs

-- two decimals between brackets
abbrev pub pair : List ℕ → List ℕ → List ℕ → Number → Number → List Piece
pair left between right a b = mark space left ∷ value tight a ++ mark tight between ∷ value tight b ++ mark tight right
    ∷ []

-- ` SG_ name indicator : start|size@order+ (factor,offset) [minimum|maximum] "unit" receivers`
abbrev pub layout_pieces : Signal → List Piece
layout_pieces s = number space s.layout.start ∷ mark tight (codes "|") ∷ number tight s.layout.size
    ∷ mark tight (codes "@") ∷ number tight (order_number s.layout.order)
    ∷ mark tight (if s.signed then codes "-" else codes "+") ∷ []

abbrev pub signal_line : Signal → Line
signal_line s = word space (codes "SG_") ∷ word space s.name ∷ mux_pieces s.mux ++ mark space (codes ":")
    ∷ layout_pieces s
    ++ pair (codes "(") (codes ",") (codes ")") s.factor s.offset ++ pair (codes "[") (codes "|") (codes "]") s.minimum
    s.maximum ++ quoted space s.unit ∷ receiver_pieces s.receivers

abbrev pub message_lines : Message → List Line
message_lines m = message_line m ∷ map signal_line m.signals

-- CM_, what it is about, and the comment; nothing if it is empty
abbrev pub comment_lines : List Piece → List ℕ → List Line
comment_lines of_what [] = []
comment_lines of_what (b ∷ bs) =
    (word tight (codes "CM_") ∷ of_what ++ quoted space (b ∷ bs) ∷ mark tight (codes ";") ∷ []) ∷ []

abbrev pub node_comment : Node → List Line
node_comment n = comment_lines (word space (codes "BU_") ∷ word space n.name ∷ []) n.comment

-- SG_, the message's number and the signal's name; or only the last two
abbrev pub citation_pieces : Message → Signal → List Piece
citation_pieces m s = number space (number_of m) ∷ word space s.name ∷ []

abbrev pub signal_pieces : Message → Signal → List Piece
signal_pieces m s = word space (codes "SG_") ∷ citation_pieces m s

abbrev pub message_comments : Message → List Line
message_comments m = comment_lines (word space (codes "BO_") ∷ number space (number_of m) ∷ []) m.comment
    ++ flat_map (λ (s : Signal). comment_lines (signal_pieces m s) s.comment) m.signals

-- the lines of each signal of each message
abbrev pub each_signal : (Message → Signal → List Line) → Sheet → List Line
each_signal f s = flat_map (λ (m : Message). flat_map (f m) m.signals) s.messages

-- BA_ "SPN" SG_ number name spn;
abbrev pub spn_lines : Message → Signal → List Line
spn_lines m s = if s.spn == 0 then [] else
    ((word tight (codes "BA_") ∷ quoted space (codes "SPN") ∷ signal_pieces m s ++ number space s.spn
    ∷ mark tight (codes ";") ∷ []) ∷ [])

-- BA_DEF_ SG_ "SPN" INT 0 spn_limit;
abbrev pub spn_definition : Line
spn_definition = word tight (codes "BA_DEF_") ∷ word space (codes "SG_") ∷ quoted space (codes "SPN")
    ∷ word space (codes "INT")
    ∷ number space 0 ∷ number space spn_limit ∷ mark tight (codes ";") ∷ []

-- BA_DEF_DEF_ "SPN" 0;
abbrev pub spn_default : Line
spn_default = word tight (codes "BA_DEF_DEF_") ∷ quoted space (codes "SPN") ∷ number space 0 ∷ mark tight (codes ";")
    ∷ []

-- both, which come before the first of the numbers
abbrev pub spn_definitions : List Line
spn_definitions = spn_definition ∷ spn_default ∷ []

abbrev pub with_spn_definitions : List Line → List Line
with_spn_definitions [] = []
with_spn_definitions (l ∷ ls) = spn_definitions ++ l ∷ ls

-- VAL_ number name and the values with their texts
abbrev pub value_lines : Message → Signal → List Line
value_lines m s = texts_of s.values
  where
    texts_of : List ValueText → List Line
    texts_of [] = []
    texts_of (v ∷ vs) = (word tight (codes "VAL_") ∷ citation_pieces m s ++ entries (v ∷ vs)) ∷ []

-- SIG_VALTYPE_ number name : type;
abbrev pub type_lines : Message → Signal → List Line
type_lines m s = if value_type_number s.value_type == 0 then [] else
    ((word tight (codes "SIG_VALTYPE_") ∷ citation_pieces m s ++ mark space (codes ":")
    ∷ number space (value_type_number s.value_type) ∷ mark tight (codes ";") ∷ []) ∷ [])

abbrev pub canonical_lines : Sheet → List Line
canonical_lines s = version_line s ∷ symbols_line ∷ timing_line ∷ nodes_line s
    ∷ map table_line s.tables ++ flat_map message_lines s.messages
    ++ comment_lines [] s.comment ++ flat_map node_comment s.nodes ++ flat_map message_comments s.messages
    ++ with_spn_definitions (each_signal spn_lines s) ++ each_signal value_lines s ++ each_signal type_lines s

-- the bytes of a line, and its LF
abbrev pub line_text : Line → List ℕ
line_text l = flat_map (λ (p : Piece). p.gap ++ p.text) l ++ codes "\n"

abbrev pub canonical_text : Sheet → List ℕ
canonical_text s = flat_map line_text (canonical_lines s)
