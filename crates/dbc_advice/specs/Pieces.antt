-- The beginning of a statement by itself.
use Rattle.std.specs.Prelude.{ℕ, List, ◌++◌, if◌then◌else◌, codes, slice_range}
use Rattle.dbc_words.specs.declared.keyword.Keyword.TheVariants.{Signal}
use Rattle.dbc_grammar.specs.Fields.{is_key}
use Rattle.dbc_grammar.specs.Lexing.{lexed}
use Rattle.dbc_grammar.specs.Rules.{starts}
use Rattle.dbc_advice.specs.Lines.{line_start}

-- the heading of a message, after which a signal may come
abbrev pub heading : List ℕ
heading = codes "BO_ 0 Message: 1785 Vector__XXX\n"

-- a piece of text, with a heading before it where it begins with a signal
unfoldable pub alone : List ℕ → List ℕ
alone piece = if starts (is_key Signal) (lexed 0 piece).tokens then heading ++ piece else piece

-- the text of a statement from the first line of it up to an offset
abbrev pub statement_before : List ℕ → ℕ → ℕ → List ℕ
statement_before text first at = alone (slice_range text (line_start text first) at)
