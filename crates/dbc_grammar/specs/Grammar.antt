-- The statements of a DBC file. A statement is a keyword and what follows it; each line below is what follows
-- one keyword. The lines are those of Vector's DBC File Format Documentation. A comment at each marks this project's
-- dialect: what it accepts beyond them, the ranges of numbers, and which statements it skips.
use Rattle.std.specs.Prelude.{ℕ, Bool, true, ◌&&◌, ◌||◌, not, nat_le, List, [], ◌∷◌, Option, is_some, option_map, codes}
use Rattle.std.specs.Str.{bytes_eq}
use Rattle.dbc_words.specs.Keyword.{KeywordGroup, Kept, Passed, Refused, keyword_group}
use Rattle.dbc_words.specs.Limits.{spn_limit}
use Rattle.dbc_words.specs.declared.keyword.Keyword.{Keyword}
use Rattle.dbc_words.specs.declared.keyword.Keyword.TheVariants.{Version, NewSymbols, BitTiming, Nodes, ValueTable}
use Rattle.dbc_words.specs.declared.keyword.Keyword.TheVariants.{Message, Signal, Comment, ValueTexts, SignalValueType}
use Rattle.dbc_words.specs.declared.keyword.Keyword.TheVariants.{AttributeValue, EnvironmentVariable}
use Rattle.dbc_grammar.specs.Fields.{is_a, is_mark, is_key, key_of, text_of, cited_name, made_name, node_of}
use Rattle.dbc_grammar.specs.Fields.{whole_where, cited_number, message_ident, independent_number, length_of, type_of}
use Rattle.dbc_grammar.specs.Fields.{key, mark, entry, nodes, signal}
use Rattle.dbc_grammar.specs.Inside.{inside_of}
use Rattle.dbc_grammar.specs.Rules.{Rule, token, one, ◌>>=◌, done, followed, optional, many, either, unless, nothing}
use Rattle.dbc_grammar.specs.Statement.{Statement, Content, VersionIs, NodesAre, TableIs, MessageIs, CommentIs}
use Rattle.dbc_grammar.specs.Statement.{NodeCommentIs, MessageCommentIs, SignalCommentIs, ValueTextsAre, ValueTypeIs}
use Rattle.dbc_grammar.specs.Statement.{SpnIs, Dropped, PassedOver}
use Rattle.dbc_grammar.specs.Token.{Token}
use Rattle.dbc_grammar.specs.declared.token.TokenKind.TheVariants.{Name, Number, Text}

-- What may follow a statement.

-- a keyword other than `SG_`: any of them, also one whose statement is skipped, and `SG_MUL_VAL_`, which begins none
abbrev pub begins_next : Token → Bool
begins_next t = is_some (key_of t) && not (is_key Signal t)

-- the end, or such a keyword
abbrev pub next : List Token → Bool
next [] = true
next (t ∷ ts) = begins_next t

-- a token other than the `;` that ends many statements
abbrev pub is_open : Token → Bool
is_open t = not (is_mark (codes ";") t)

-- Statements that are read.

-- `VERSION text`
unfoldable pub version_line : Rule Content
version_line = do
  version ← token text_of
  done (VersionIs version)

-- a name of the list after `NS_`: any but `BS_` and `BU_`, of any length
abbrev pub is_symbol : Token → Bool
is_symbol t = is_a Name t && not (is_key BitTiming t || is_key Nodes t)

abbrev pub ends_symbols : List Token → Bool
ends_symbols [] = true
ends_symbols (t ∷ ts) = is_key BitTiming t || is_key Nodes t

-- `NS_ : {name}`: in the dialect, names of any kind, keywords too, up to `BS_`, `BU_` or the end; nothing is kept
unfoldable pub symbols_line : Rule Content
symbols_line = do
  colon ← mark (codes ":")
  symbols ← many (one is_symbol)
  end ← followed ends_symbols
  done Dropped

-- `: number , number`
unfoldable pub registers : Rule (Unit {0})
registers = do
  colon ← mark (codes ":")
  first ← one (is_a Number)
  comma ← mark (codes ",")
  second ← one (is_a Number)
  done tt

-- `number [: number , number]`
unfoldable pub timing : Rule (Unit {0})
timing = do
  rate ← one (is_a Number)
  others ← optional registers
  done tt

-- `BS_ : [number [: number , number]]`: in the dialect one number may come alone; nothing is kept
unfoldable pub timing_line : Rule Content
timing_line = do
  colon ← mark (codes ":")
  numbers ← optional timing
  done Dropped

-- `BU_ : nodes`: in the dialect there may be a comma between two
unfoldable pub nodes_line : Rule Content
nodes_line = do
  colon ← mark (codes ":")
  names ← nodes
  done (NodesAre names)

-- `VAL_TABLE_ name {value text} ;`
unfoldable pub table_line : Rule Content
table_line = do
  name ← token made_name
  entries ← many entry
  end ← mark (codes ";")
  done (TableIs name entries)

-- `BO_ number name : length transmitter {signal}`
unfoldable pub message_line : Rule Content
message_line = do
  ident ← token message_ident
  name ← token made_name
  colon ← mark (codes ":")
  length ← token length_of
  transmitter ← token node_of
  signals ← many signal
  done (MessageIs (record {
    ident = ident;
    name = name;
    length = length;
    transmitter = transmitter;
    signals =
        signals;
  }))

-- `CM_ text ;`
unfoldable pub file_comment : Rule Content
file_comment = do
  text ← token text_of
  end ← mark (codes ";")
  done (CommentIs text)

-- `CM_ BU_ name text ;`
unfoldable pub node_comment : Rule Content
node_comment = do
  word ← key Nodes
  node ← token cited_name
  text ← token text_of
  end ← mark (codes ";")
  done (NodeCommentIs node text)

-- `CM_ BO_ number text ;`
unfoldable pub message_comment : Rule Content
message_comment = do
  word ← key Message
  number ← token cited_number
  text ← token text_of
  end ← mark (codes ";")
  done (MessageCommentIs number text)

-- `CM_ SG_ number name text ;`
unfoldable pub signal_comment : Rule Content
signal_comment = do
  word ← key Signal
  number ← token cited_number
  name ← token cited_name
  text ← token text_of
  end ← mark (codes ";")
  done (SignalCommentIs number name text)

-- `VAL_ number name {value text} ;`
unfoldable pub value_texts_line : Rule Content
value_texts_line = do
  number ← token cited_number
  name ← token cited_name
  entries ← many entry
  end ← mark (codes ";")
  done (ValueTextsAre number name entries)

-- `SIG_VALTYPE_ number name [:] type ;`: in the dialect with the colon or without
unfoldable pub value_type_line : Rule Content
value_type_line = do
  number ← token cited_number
  name ← token cited_name
  colon ← optional (mark (codes ":"))
  value_type ← token type_of
  end ← mark (codes ";")
  done (ValueTypeIs number name value_type)

-- the name of the attribute with suspect parameter numbers
abbrev pub is_spn_name : Token → Bool
is_spn_name t = is_a Text t && bytes_eq (inside_of t.text) (codes "SPN")

abbrev pub spn_of : Token → Option ℕ
spn_of t = whole_where (λ n. nat_le n spn_limit) t

-- `BA_ "SPN" SG_ number name spn ;`: the only attribute value that the dialect reads (SAE J1939)
unfoldable pub spn_line : Rule Content
spn_line = do
  attribute ← one is_spn_name
  word ← key Signal
  number ← token cited_number
  name ← token cited_name
  spn ← token spn_of
  end ← mark (codes ";")
  done (SpnIs number name spn)

-- Statements that are skipped: this project's dialect.

-- the tokens up to the next `;`, and the `;`
unfoldable pub skipped : Rule Content
skipped = do
  others ← many (one is_open)
  end ← mark (codes ";")
  done PassedOver

-- what follows a keyword whose statement is skipped
unfoldable pub passed_line : Rule Content
passed_line = skipped

-- `CM_ EV_`, the comment of an environment variable
unfoldable pub passed_comment : Rule Content
passed_comment = do
  word ← key EnvironmentVariable
  passed ← skipped
  done passed

-- `VAL_ name`, the value texts of an environment variable
unfoldable pub passed_value_texts : Rule Content
passed_value_texts = do
  name ← token cited_name
  passed ← skipped
  done passed

-- any `BA_` except the one that is read
unfoldable pub passed_attribute : Rule Content
passed_attribute = unless spn_line skipped

-- `BO_ 3221225472`, the signals of no message, up to the next keyword other than `SG_`, whatever it is
unfoldable pub independent_line : Rule Content
independent_line = do
  number ← token independent_number
  others ← many (one (λ t. not (begins_next t)))
  end ← followed next
  done PassedOver

-- All statements.

unfoldable pub comment_line : Rule Content
comment_line = either file_comment (either node_comment (either message_comment (either signal_comment passed_comment)))

-- what follows the other keywords, whose statements aren't kept
abbrev pub other_line : KeywordGroup → Rule Content
other_line Passed = passed_line
other_line Refused = nothing
other_line Kept = nothing

-- what follows each keyword; `SG_` begins no statement
unfoldable pub line : Keyword → Rule Content
line Version = version_line
line NewSymbols = symbols_line
line BitTiming = timing_line
line Nodes = nodes_line
line ValueTable = table_line
line Message = either message_line independent_line
line Signal = nothing
line Comment = comment_line
line ValueTexts = either value_texts_line passed_value_texts
line SignalValueType = value_type_line
line AttributeValue = either spn_line passed_attribute
line k = other_line (keyword_group k)

-- a keyword, and its offset
abbrev pub first_word : Token → Option (ℕ × Keyword)
first_word t = option_map (λ k. (t.start, k)) (key_of t)

unfoldable pub statement : Rule Statement
statement = do
  first ← token first_word
  content ← line first.1
  done (record { start = first.0; keyword = first.1; content = content })
