-- Statements computed: each rule of the fields and the statements as a function from tokens to what they begin with and
-- the tokens after it. Code is proved against these functions. That they find the division of a file, if it has one, is
-- a law.
use Rattle.std.specs.Prelude.{ℕ, zero, suc, Bool, true, false, not, List, [], ◌∷◌, ◌++◌, length, filter_map, Option}
use Rattle.std.specs.Prelude.{Some, None, option_and_then, unwrap_or, if◌then◌else◌, codes}
use Rattle.bitlayout.specs.declared.layout.Layout.{Layout}
use Rattle.bitlayout.specs.declared.place.Mux.TheVariants.{Always}
use Rattle.decimal.specs.Number.{Number}
use Rattle.dbc_words.specs.Keyword.{KeywordGroup, Kept, Passed, Refused, keyword_group}
use Rattle.dbc_words.specs.declared.keyword.Keyword.{Keyword}
use Rattle.dbc_words.specs.declared.keyword.Keyword.TheVariants.{Version, NewSymbols, BitTiming, Nodes, ValueTable}
use Rattle.dbc_words.specs.declared.keyword.Keyword.TheVariants.{Message, Signal, Comment, ValueTexts, SignalValueType}
use Rattle.dbc_words.specs.declared.keyword.Keyword.TheVariants.{AttributeValue, EnvironmentVariable}
use Rattle.dbc_grammar.specs.Fields.{is_a, is_mark, is_key, text_of, cited_name, made_name, node_of, cited_number}
use Rattle.dbc_grammar.specs.Fields.{message_ident, independent_number, length_of, start_of, size_of, order_of, type_of}
use Rattle.dbc_grammar.specs.Fields.{sign_of, mux_of, number_of, goes_on}
use Rattle.dbc_grammar.specs.Grammar.{begins_next, next, is_open, is_symbol, ends_symbols, is_spn_name, spn_of}
use Rattle.dbc_grammar.specs.Grammar.{first_word}
use Rattle.dbc_grammar.specs.Rules.{only, starts, begins}
use Rattle.dbc_grammar.specs.Statement.{SignalLine, Statement, Content, VersionIs, NodesAre, TableIs, MessageIs}
use Rattle.dbc_grammar.specs.Statement.{CommentIs, NodeCommentIs, MessageCommentIs, SignalCommentIs, ValueTextsAre}
use Rattle.dbc_grammar.specs.Statement.{ValueTypeIs, SpnIs, Dropped, PassedOver}
use Rattle.dbc_grammar.specs.Token.{Token}
use Rattle.dbc_grammar.specs.declared.token.TokenKind.TheVariants.{Number as NumberKind}
use Rattle.dbc_sheet.specs.declared.value_texts.ValueText.{ValueText}

-- what the tokens begin with, and those after it; or that they don't begin so
abbrev pub Parsed : Type 0 → Type 0
Parsed A = Option (A × List Token)

infixl 10 ◌>>=◌
abbrev pub ◌>>=◌ : {A B : Type 0} → Option A → (A → Option B) → Option B
o >>= f = option_and_then f o

-- one token
abbrev pub token_at : {A : Type 0} → (Token → Option A) → List Token → Parsed A
token_at says [] = None
token_at says (t ∷ ts) = option_and_then (λ x. Some (x, ts)) (says t)

abbrev pub one_at : (Token → Bool) → List Token → Parsed (Unit {0})
one_at test ts = token_at (λ t. only (test t) tt) ts

abbrev pub key_at : Keyword → List Token → Parsed (Unit {0})
key_at k ts = one_at (is_key k) ts

abbrev pub mark_at : List ℕ → List Token → Parsed (Unit {0})
mark_at spelling ts = one_at (is_mark spelling) ts

abbrev pub followed_at : (List Token → Bool) → List Token → Parsed (Unit {0})
followed_at test ts = only (test ts) (tt, ts)

-- at most once: if the test says that one follows
abbrev pub optional_at : {A : Type 0} → (List Token → Bool) → (List Token → Parsed A) → List Token → Parsed (Option A)
optional_at test parse ts = if test ts then option_and_then (λ a. Some (Some a.0, a.1)) (parse ts) else Some (None, ts)

-- at most n times
abbrev pub many_by : {A : Type 0} → (List Token → Bool) → (List Token → Parsed A) → ℕ → List Token → Parsed (List A)
many_by test parse zero ts = Some ([], ts)
many_by test parse (suc n) ts =
    if test ts then (parse ts >>= λ a. many_by test parse n a.1 >>= λ b. Some (a.0 ∷ b.0, b.1)) else Some ([], ts)

-- as long as the test says that another one follows
abbrev pub many_at : {A : Type 0} → (List Token → Bool) → (List Token → Parsed A) → List Token → Parsed (List A)
many_at test parse ts = many_by test parse (length ts) ts

-- what a loop has read so far, and what it still reads
abbrev pub with_front : {A : Type 0} → List A → Parsed (List A) → Parsed (List A)
with_front front o = option_and_then (λ b. Some (front ++ b.0, b.1)) o

-- the first of two if the test holds, and else the second
abbrev pub either_at : {A : Type 0} → (List Token → Bool) → (List Token → Parsed A) → (List Token → Parsed A)
    → List Token → Parsed A
either_at test parse other ts = if test ts then parse ts else other ts

-- the first, or the second if the first reads nothing
abbrev pub or_else : {A : Type 0} → Parsed A → Parsed A → Parsed A
or_else None other = other
or_else (Some x) other = Some x

-- Fields.

unfoldable pub decimal_at : List Token → Parsed Number
decimal_at ts = do
  minus ← optional_at (begins sign_of) (token_at sign_of) ts
  n ← token_at (number_of (unwrap_or minus.0 false)) minus.1
  Some (n.0, n.1)

unfoldable pub pair_at : List ℕ → List ℕ → List ℕ → List Token → Parsed (Number × Number)
pair_at left between right ts = do
  opening ← mark_at left ts
  a ← decimal_at opening.1
  middle ← mark_at between a.1
  b ← decimal_at middle.1
  closing ← mark_at right b.1
  Some ((a.0, b.0), closing.1)

unfoldable pub entry_at : List Token → Parsed ValueText
entry_at ts = do
  value ← decimal_at ts
  text ← token_at text_of value.1
  Some (record { value = value.0; text = text.0 }, text.1)

unfoldable pub entries_at : List Token → Parsed (List ValueText)
entries_at ts = many_at (starts is_open) entry_at ts

unfoldable pub further_at : List Token → Parsed (Option (List ℕ))
further_at ts = do
  comma ← optional_at (starts (is_mark (codes ","))) (mark_at (codes ",")) ts
  node ← token_at node_of comma.1
  Some (node.0, node.1)

unfoldable pub some_names_at : List Token → Parsed (List (List ℕ))
some_names_at ts = do
  node ← token_at node_of ts
  others ← many_at goes_on further_at node.1
  end ← followed_at (λ ts. not (goes_on ts)) others.1
  Some (filter_map (λ name. name) (node.0 ∷ others.0), end.1)

unfoldable pub no_names_at : List Token → Parsed (List (List ℕ))
no_names_at ts = do
  end ← followed_at (λ ts. not (begins node_of ts)) ts
  Some ([], end.1)

unfoldable pub nodes_at : List Token → Parsed (List (List ℕ))
nodes_at = either_at (begins node_of) some_names_at no_names_at

unfoldable pub layout_at : List Token → Parsed (Layout × Bool)
layout_at ts = do
  start ← token_at start_of ts
  bar ← mark_at (codes "|") start.1
  size ← token_at size_of bar.1
  at_mark ← mark_at (codes "@") size.1
  order ← token_at order_of at_mark.1
  minus ← token_at sign_of order.1
  Some ((record { start = start.0; size = size.0; order = order.0 }, minus.0), minus.1)

unfoldable pub signal_at : List Token → Parsed SignalLine
signal_at ts = do
  word ← key_at Signal ts
  name ← token_at made_name word.1
  mux ← optional_at (begins mux_of) (token_at mux_of) name.1
  colon ← mark_at (codes ":") mux.1
  bits ← layout_at colon.1
  scale ← pair_at (codes "(") (codes ",") (codes ")") bits.1
  range ← pair_at (codes "[") (codes "|") (codes "]") scale.1
  unit ← token_at text_of range.1
  receivers ← nodes_at unit.1
  Some (
    record {
      name = name.0;
      layout = bits.0.0;
      signed = bits.0.1;
      mux = unwrap_or mux.0 Always;
      factor = scale.0.0;
      offset = scale.0.1;
      minimum = range.0.0;
      maximum = range.0.1;
      unit = unit.0;
      receivers = receivers.0;
    },
    receivers.1,
  )

-- Statements that are read.

unfoldable pub version_at : List Token → Parsed Content
version_at ts = do
  version ← token_at text_of ts
  Some (VersionIs version.0, version.1)

unfoldable pub symbols_at : List Token → Parsed Content
symbols_at ts = do
  colon ← mark_at (codes ":") ts
  symbols ← many_at (starts is_symbol) (one_at is_symbol) colon.1
  end ← followed_at ends_symbols symbols.1
  Some (Dropped, end.1)

unfoldable pub registers_at : List Token → Parsed (Unit {0})
registers_at ts = do
  colon ← mark_at (codes ":") ts
  first ← one_at (is_a NumberKind) colon.1
  comma ← mark_at (codes ",") first.1
  second ← one_at (is_a NumberKind) comma.1
  Some (tt, second.1)

unfoldable pub timing_at : List Token → Parsed (Unit {0})
timing_at ts = do
  rate ← one_at (is_a NumberKind) ts
  others ← optional_at (starts (is_mark (codes ":"))) registers_at rate.1
  Some (tt, others.1)

unfoldable pub timing_line_at : List Token → Parsed Content
timing_line_at ts = do
  colon ← mark_at (codes ":") ts
  numbers ← optional_at (starts (is_a NumberKind)) timing_at colon.1
  Some (Dropped, numbers.1)

unfoldable pub nodes_line_at : List Token → Parsed Content
nodes_line_at ts = do
  colon ← mark_at (codes ":") ts
  names ← nodes_at colon.1
  Some (NodesAre names.0, names.1)

unfoldable pub table_at : List Token → Parsed Content
table_at ts = do
  name ← token_at made_name ts
  entries ← entries_at name.1
  end ← mark_at (codes ";") entries.1
  Some (TableIs name.0 entries.0, end.1)

unfoldable pub signals_at : List Token → Parsed (List SignalLine)
signals_at ts = many_at (starts (is_key Signal)) signal_at ts

unfoldable pub message_at : List Token → Parsed Content
message_at ts = do
  ident ← token_at message_ident ts
  name ← token_at made_name ident.1
  colon ← mark_at (codes ":") name.1
  length ← token_at length_of colon.1
  transmitter ← token_at node_of length.1
  signals ← signals_at transmitter.1
  Some (
    MessageIs (record {
      ident = ident.0;
      name = name.0;
      length = length.0;
      transmitter = transmitter.0;
      signals = signals.0;
    }),
    signals.1,
  )

unfoldable pub file_comment_at : List Token → Parsed Content
file_comment_at ts = do
  text ← token_at text_of ts
  end ← mark_at (codes ";") text.1
  Some (CommentIs text.0, end.1)

unfoldable pub node_comment_at : List Token → Parsed Content
node_comment_at ts = do
  word ← key_at Nodes ts
  node ← token_at cited_name word.1
  text ← token_at text_of node.1
  end ← mark_at (codes ";") text.1
  Some (NodeCommentIs node.0 text.0, end.1)

unfoldable pub message_comment_at : List Token → Parsed Content
message_comment_at ts = do
  word ← key_at Message ts
  number ← token_at cited_number word.1
  text ← token_at text_of number.1
  end ← mark_at (codes ";") text.1
  Some (MessageCommentIs number.0 text.0, end.1)

unfoldable pub signal_comment_at : List Token → Parsed Content
signal_comment_at ts = do
  word ← key_at Signal ts
  number ← token_at cited_number word.1
  name ← token_at cited_name number.1
  text ← token_at text_of name.1
  end ← mark_at (codes ";") text.1
  Some (SignalCommentIs number.0 name.0 text.0, end.1)

unfoldable pub value_texts_at : List Token → Parsed Content
value_texts_at ts = do
  number ← token_at cited_number ts
  name ← token_at cited_name number.1
  entries ← entries_at name.1
  end ← mark_at (codes ";") entries.1
  Some (ValueTextsAre number.0 name.0 entries.0, end.1)

unfoldable pub value_type_at : List Token → Parsed Content
value_type_at ts = do
  number ← token_at cited_number ts
  name ← token_at cited_name number.1
  colon ← optional_at (starts (is_mark (codes ":"))) (mark_at (codes ":")) name.1
  value_type ← token_at type_of colon.1
  end ← mark_at (codes ";") value_type.1
  Some (ValueTypeIs number.0 name.0 value_type.0, end.1)

unfoldable pub spn_at : List Token → Parsed Content
spn_at ts = do
  attribute ← one_at is_spn_name ts
  word ← key_at Signal attribute.1
  number ← token_at cited_number word.1
  name ← token_at cited_name number.1
  spn ← token_at spn_of name.1
  end ← mark_at (codes ";") spn.1
  Some (SpnIs number.0 name.0 spn.0, end.1)

-- Statements that are skipped.

unfoldable pub skipped_at : List Token → Parsed Content
skipped_at ts = do
  others ← many_at (starts is_open) (one_at is_open) ts
  end ← mark_at (codes ";") others.1
  Some (PassedOver, end.1)

unfoldable pub passed_comment_at : List Token → Parsed Content
passed_comment_at ts = do
  word ← key_at EnvironmentVariable ts
  passed ← skipped_at word.1
  Some (passed.0, passed.1)

unfoldable pub passed_value_texts_at : List Token → Parsed Content
passed_value_texts_at ts = do
  name ← token_at cited_name ts
  passed ← skipped_at name.1
  Some (passed.0, passed.1)

unfoldable pub independent_at : List Token → Parsed Content
independent_at ts = do
  number ← token_at independent_number ts
  others ← many_at (starts (λ t. not (begins_next t))) (one_at (λ t. not (begins_next t))) number.1
  end ← followed_at next others.1
  Some (PassedOver, end.1)

-- All of them.

abbrev pub signal_or_passed_at : List Token → Parsed Content
signal_or_passed_at = either_at (starts (is_key Signal)) signal_comment_at passed_comment_at

abbrev pub message_or_signal_at : List Token → Parsed Content
message_or_signal_at = either_at (starts (is_key Message)) message_comment_at signal_or_passed_at

abbrev pub named_comment_at : List Token → Parsed Content
named_comment_at = either_at (starts (is_key Nodes)) node_comment_at message_or_signal_at

unfoldable pub comment_at : List Token → Parsed Content
comment_at = either_at (begins text_of) file_comment_at named_comment_at

abbrev pub other_line_at : KeywordGroup → List Token → Parsed Content
other_line_at Passed ts = skipped_at ts
other_line_at Refused ts = None
other_line_at Kept ts = None

unfoldable pub line_at : Keyword → List Token → Parsed Content
line_at Version ts = version_at ts
line_at NewSymbols ts = symbols_at ts
line_at BitTiming ts = timing_line_at ts
line_at Nodes ts = nodes_line_at ts
line_at ValueTable ts = table_at ts
line_at Message ts = either_at (begins message_ident) message_at independent_at ts
line_at Signal ts = None
line_at Comment ts = comment_at ts
line_at ValueTexts ts = either_at (begins cited_number) value_texts_at passed_value_texts_at ts
line_at SignalValueType ts = value_type_at ts
line_at AttributeValue ts = or_else (spn_at ts) (skipped_at ts)
line_at k ts = other_line_at (keyword_group k) ts

unfoldable pub statement_at : List Token → Parsed Statement
statement_at ts = do
  first ← token_at first_word ts
  content ← line_at first.0.1 first.1
  Some (record { start = first.0.0; keyword = first.0.1; content = content.0 }, content.1)

abbrev pub is_more : List Token → Bool
is_more [] = false
is_more (t ∷ ts) = true

-- the statements, if no token is left
abbrev pub all_of : List Statement × List Token → Option (List Statement)
all_of (ss, []) = Some ss
all_of (ss, t ∷ ts) = None

unfoldable pub statements_at : List Token → Option (List Statement)
statements_at ts = many_at is_more statement_at ts >>= all_of
