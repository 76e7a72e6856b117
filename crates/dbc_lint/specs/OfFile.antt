-- All remarks on a file, in the order of its statements, and where they are.
use Rattle.std.specs.Prelude.{ℕ, List, [], ◌∷◌, ◌++◌, Option, Some, None, drop, length, min, if◌then◌else◌}
use Rattle.std.specs.List.{flat_map}
use Rattle.std.specs.Str.{bytes_eq}
use Rattle.can_id.specs.Ident.{dbc_number}
use Rattle.dbc_words.specs.Keyword.{keyword_text}
use Rattle.dbc_words.specs.declared.keyword.Keyword.TheVariants as key
use Rattle.dbc_grammar.specs.Lexing.{lexed}
use Rattle.dbc_grammar.specs.Statement.{Content, MessageIs, NodesAre, Statement, TableIs}
use Rattle.dbc_grammar.specs.Token.{Token}
use Rattle.dbc_sheet.specs.Messages.{message_at}
use Rattle.dbc_sheet.specs.declared.message.Message.{Message}
use Rattle.dbc_sheet.specs.declared.sheet.Sheet.{Sheet}
use Rattle.dbc_sheet.specs.declared.signal.Signal.{Signal}
use Rattle.dbc_lint.specs.OfMessage.{of_message}
use Rattle.dbc_lint.specs.OfNode.{of_node}
use Rattle.dbc_lint.specs.OfSignal.{of_signal}
use Rattle.dbc_lint.specs.OfTable.{of_table}
use Rattle.dbc_lint.specs.declared.remark.Remark.{Remark}

-- ---- places in the file

-- the tokens from an offset of the text on
abbrev pub tokens_at : List ℕ → ℕ → List Token
tokens_at text at = (lexed (min at (length text)) (drop at text)).tokens

-- the tokens from the first one of these bytes on
abbrev pub from_word : List ℕ → List Token → List Token
from_word word [] = []
from_word word (t ∷ ts) = if bytes_eq t.text word then t ∷ ts else from_word word ts

-- where the first of the tokens is
abbrev pub start_of : List Token → ℕ
start_of [] = 0
start_of (t ∷ ts) = t.start

-- the tokens after the next `SG_`: the first is the name of a signal
abbrev pub at_signal : List Token → List Token
at_signal ts = drop 1 (from_word (keyword_text key.Signal) ts)

-- ---- the remarks on what a statement defines

-- on each of the nodes, at its name
abbrev pub of_names : Sheet → List Token → List (List ℕ) → List Remark
of_names sheet ts [] = []
of_names sheet ts (name ∷ names) =
    of_node sheet name (start_of (from_word name ts)) ++ of_names sheet (drop 1 (from_word name ts)) names

-- on each of the signals of the message, at its name
abbrev pub of_signals : Sheet → Message → List Token → List Signal → List Remark
of_signals sheet m ts [] = []
of_signals sheet m ts (s ∷ signals) =
    of_signal sheet m s (start_of (at_signal ts)) ++ of_signals sheet m (drop 1 (at_signal ts)) signals

-- on the message, at the keyword of its statement, and on its signals
abbrev pub of_described : Sheet → ℕ → List Token → Option Message → List Remark
of_described sheet at ts None = []
of_described sheet at ts (Some m) = of_message sheet m at ++ of_signals sheet m ts m.signals

-- a message is the one of the sheet that has its number, with all that other statements attach to it
abbrev pub of_content : Sheet → ℕ → List Token → Content → List Remark
of_content sheet at ts (NodesAre names) = of_names sheet ts names
of_content sheet at ts (TableIs name entries) = of_table name entries at
of_content sheet at ts (MessageIs line) = of_described sheet at ts (message_at sheet.messages (dbc_number line.ident))
of_content sheet at ts content = []

abbrev pub of_statement : List ℕ → Sheet → Statement → List Remark
of_statement text sheet s = of_content sheet s.start (tokens_at text s.start) s.content

-- ---- all

-- the remarks on the sheet that the text reads as: those of each statement, in order
abbrev pub of_statements : List ℕ → Sheet → List Statement → List Remark
of_statements text sheet statements = flat_map (of_statement text sheet) statements
