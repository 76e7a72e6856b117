-- The fields of the statements of a DBC file: what single tokens mean, and rules for what several mean together. They
-- are those of Vector's DBC File Format Documentation; this project's dialect sets the ranges of numbers and the length
-- of names, and lets the comma between two names of a list be written or left out.
use Rattle.std.specs.Prelude.{◌≡◌, ◌↔◌, ℕ, ◌+◌, ◌-◌, Bool, true, false, ◌&&◌, ◌||◌, ◌==◌, not, nat_le, List, [], ◌∷◌}
use Rattle.std.specs.Prelude.{filter_map, Option, Some, None}
use Rattle.std.specs.Prelude.{is_some, option_map, option_and_then, unwrap_or, if◌then◌else◌, codes}
use Rattle.std.specs.Result.{result_ok}
use Rattle.std.specs.Str.{bytes_eq}
use Rattle.base.specs.WholeNumber.{is_numeral, whole_of}
use Rattle.can_id.specs.Form.{greatest_number}
use Rattle.can_id.specs.Ident.{IsIdentifier, dbc_number, extended_flag}
use Rattle.can_id.specs.declared.form.IdentForm.TheVariants.{Standard, Extended}
use Rattle.can_id.specs.declared.ident.Ident.{Ident}
use Rattle.can_id.specs.declared.ident.Ident.TheVariants.{Std, Ext}
use Rattle.bitlayout.specs.declared.layout.Layout.{Layout}
use Rattle.bitlayout.specs.declared.layout.Order.{Order}
use Rattle.bitlayout.specs.declared.place.Mux.{Mux}
use Rattle.bitlayout.specs.declared.place.Mux.TheVariants.{Always}
use Rattle.bitlayout.specs.Order.{order_numbered}
use Rattle.decimal.specs.Number.{IsDecimal, Number}
use Rattle.decimal.specs.Reading.{reading}
use Rattle.decimal.specs.Spelling.{Writes}
use Rattle.dbc_words.specs.Indicator.{mux_of_indicator}
use Rattle.dbc_words.specs.Keyword.{keyword_of, keyword_text}
use Rattle.dbc_words.specs.Limits.{length_limit, size_limit, start_limit}
use Rattle.dbc_words.specs.Name.{is_name, no_node}
use Rattle.dbc_words.specs.ValueType.{value_type_of}
use Rattle.dbc_words.specs.declared.keyword.Keyword.{Keyword}
use Rattle.dbc_words.specs.declared.keyword.Keyword.TheVariants.{Signal}
use Rattle.dbc_words.specs.declared.value_type.ValueType.{ValueType}
use Rattle.dbc_grammar.specs.Inside.{inside_of}
use Rattle.dbc_grammar.specs.Rules.{Rule, token, one, only, ◌>>=◌, done, followed, optional, many, either, begins}
use Rattle.dbc_grammar.specs.Statement.{SignalLine, Cited}
use Rattle.dbc_grammar.specs.Token.{Token}
use Rattle.dbc_grammar.specs.declared.token.TokenKind.{TokenKind}
use Rattle.dbc_grammar.specs.declared.token.TokenKind.TheVariants.{Name, Number as NumberKind, Text, Mark}
use Rattle.dbc_sheet.specs.declared.value_texts.ValueText.{ValueText}

-- Tests of one token.

abbrev pub same_kind : TokenKind → TokenKind → Bool
same_kind Name Name = true
same_kind NumberKind NumberKind = true
same_kind Text Text = true
same_kind Mark Mark = true
same_kind a b = false

abbrev pub is_a : TokenKind → Token → Bool
is_a kind t = same_kind kind t.kind

-- the mark of this spelling
abbrev pub is_mark : List ℕ → Token → Bool
is_mark mark t = is_a Mark t && bytes_eq t.text mark

-- this keyword
abbrev pub is_key : Keyword → Token → Bool
is_key k t = is_a Name t && bytes_eq t.text (keyword_text k)

-- the keyword that the token is
abbrev pub key_of : Token → Option Keyword
key_of t = if is_a Name t then keyword_of t.text else None

-- What one token means.

-- a text
abbrev pub text_of : Token → Option (List ℕ)
text_of t = only (is_a Text t) (inside_of t.text)

-- A name that is only cited is any name token, also a keyword: the file may have nothing of that name.
abbrev pub cited_name : Token → Option (List ℕ)
cited_name t = only (is_a Name t) t.text

-- the name of something that the statement defines
abbrev pub made_name : Token → Option (List ℕ)
made_name t = only (is_a Name t && is_name t.text) t.text

-- a node, or none for the name that means no node
abbrev pub node_of : Token → Option (Option (List ℕ))
node_of t = if is_a Name t && bytes_eq t.text no_node then Some None else option_map Some (made_name t)

-- a whole number up to 4294967295: digits only, and leading zeros don't count
abbrev pub whole : Token → Option ℕ
whole t = if is_a NumberKind t then whole_of t.text else None

-- a whole number that passes a test
abbrev pub whole_where : (ℕ → Bool) → Token → Option ℕ
whole_where test t = option_and_then (λ n. only (test n) n) (whole t)

-- a whole number of any size that only cites a message: None above 4294967295, since no message has such a number
abbrev pub cited_number : Token → Option Cited
cited_number t = only (is_a NumberKind t && is_numeral t.text) (whole_of t.text)

-- the identifier that DBC files write as the number: an 11-bit one as itself, a 29-bit one with bit 31 set
abbrev pub ident_of : ℕ → Option Ident
ident_of n =
    if nat_le n (greatest_number Standard) then Some (Std n)
    else only (nat_le extended_flag n && nat_le n (extended_flag + greatest_number Extended)) (Ext (n - extended_flag))

-- it is the one identifier with this DBC number, and if it is None, no identifier has the number
abbrev pub NumbersAreIdentifiers : Type 0
NumbersAreIdentifiers = (n : ℕ) (ident : Ident)
    → (ident_of n ≡ Some ident) ↔ (IsIdentifier ident × (dbc_number ident ≡ n))

-- the identifier of a message
abbrev pub message_ident : Token → Option Ident
message_ident t = option_and_then ident_of (whole t)

-- the number of the message that holds the signals of no message; no identifier has it
abbrev pub independent_number : Token → Option ℕ
independent_number t = whole_where (λ n. n == 3221225472) t

-- the length of a message, in bytes
abbrev pub length_of : Token → Option ℕ
length_of t = whole_where (λ n. nat_le n length_limit) t

-- the start of a signal: a bit position
abbrev pub start_of : Token → Option ℕ
start_of t = whole_where (λ n. nat_le n start_limit) t

-- the size of a signal, in bits
abbrev pub size_of : Token → Option ℕ
size_of t = whole_where (λ n. nat_le 1 n && nat_le n size_limit) t

-- a byte order by its number, which may have leading zeros
abbrev pub order_of : Token → Option Order
order_of t = option_and_then order_numbered (whole t)

abbrev pub type_of : Token → Option ValueType
type_of t = option_and_then value_type_of (whole t)

-- whether a sign is a minus
abbrev pub sign_of : Token → Option Bool
sign_of t = if is_mark (codes "+") t then Some false else only (is_mark (codes "-") t) true

-- the multiplexer indicator of a signal
abbrev pub mux_of : Token → Option Mux
mux_of t = if is_a Name t then mux_of_indicator t.text else None

-- a number token, negated or not, that has a decimal's value: the decimal, so that `1.0` and `1` mean the same
abbrev pub number_of : Bool → Token → Option Number
number_of negative t = if is_a NumberKind t then result_ok (reading negative t.text) else None

-- They are the decimals that number tokens write, by the equation of values.
abbrev pub NumbersAreDecimals : Type 0
NumbersAreDecimals = (negative : Bool) (t : Token) (n : Number)
    → (number_of negative t ≡ Some n) ↔ ((is_a NumberKind t ≡ true) × Writes negative t.text n × IsDecimal n)

-- Rules.

abbrev pub key : Keyword → Rule (Unit {0})
key k = one (is_key k)

abbrev pub mark : List ℕ → Rule (Unit {0})
mark spelling = one (is_mark spelling)

-- an optional sign and a number
unfoldable pub decimal : Rule Number
decimal = do
  minus ← optional (token sign_of)
  n ← token (number_of (unwrap_or minus false))
  done n

-- two decimals between marks
unfoldable pub pair : List ℕ → List ℕ → List ℕ → Rule (Number × Number)
pair left between right = do
  opening ← mark left
  a ← decimal
  middle ← mark between
  b ← decimal
  closing ← mark right
  done (a, b)

-- a value and its text
unfoldable pub entry : Rule ValueText
entry = do
  value ← decimal
  text ← token text_of
  done (record { value = value; text = text })

-- whether one more name of a list follows, with at most one comma before it
abbrev pub goes_on : List Token → Bool
goes_on [] = false
goes_on (t ∷ ts) = is_some (node_of t) || (is_mark (codes ",") t && begins node_of ts)

-- a further name of a list
unfoldable pub further : Rule (Option (List ℕ))
further = do
  comma ← optional (mark (codes ","))
  node ← token node_of
  done node

-- the empty list: no name follows
unfoldable pub no_names : Rule (List (List ℕ))
no_names = do
  end ← followed (λ ts. not (begins node_of ts))
  done []

-- names with at most one comma between two, and no further name after the last
unfoldable pub some_names : Rule (List (List ℕ))
some_names = do
  node ← token node_of
  others ← many further
  end ← followed (λ ts. not (goes_on ts))
  done (filter_map (λ name. name) (node ∷ others))

-- A list of nodes, without the names that mean no node. It ends before the next keyword, or before anything else.
unfoldable pub nodes : Rule (List (List ℕ))
nodes = either some_names no_names

-- `start | size @ order sign`, and whether the sign is a minus
unfoldable pub layout : Rule (Layout × Bool)
layout = do
  start ← token start_of
  bar ← mark (codes "|")
  size ← token size_of
  at_mark ← mark (codes "@")
  order ← token order_of
  minus ← token sign_of
  done (record { start = start; size = size; order = order }, minus)

-- `SG_ name [indicator] : layout ( factor , offset ) [ minimum | maximum ] unit receivers`
unfoldable pub signal : Rule SignalLine
signal = do
  word ← key Signal
  name ← token made_name
  mux ← optional (token mux_of)
  colon ← mark (codes ":")
  bits ← layout
  scale ← pair (codes "(") (codes ",") (codes ")")
  range ← pair (codes "[") (codes "|") (codes "]")
  unit ← token text_of
  receivers ← nodes
  done (record {
    name = name;
    layout = bits.0;
    signed = bits.1;
    mux = unwrap_or mux Always;
    factor = scale.0;
    offset = scale.1;
    minimum = range.0;
    maximum = range.1;
    unit = unit;
    receivers = receivers;
  })
