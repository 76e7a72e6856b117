-- How the tokens of DBC text are spelled. Names, unsigned numbers, character strings and punctuation are those of
-- Vector's DBC File Format Documentation. This project's dialect decides what that leaves open: which bytes are gaps,
-- that a name may have any length, how a number may be written, and that in a text any byte may occur and a backslash
-- escapes the next byte.
use Rattle.std.specs.Prelude.{◌≡◌, ℕ, ◌==◌, nat_le, Bool, ◌&&◌, ◌||◌, List, [], ◌∷◌, ◌++◌, IsTrue, codes}
use Rattle.std.specs.List.{list_any}
use Rattle.decimal.specs.Spelling.{Spelling, IsNumberToken}
use Rattle.dbc_words.specs.Name.{is_c_identifier}
use Rattle.dbc_words.specs.Text.{IsText, quote_mark}
use Rattle.dbc_grammar.specs.declared.token.TokenKind.{TokenKind}
use Rattle.dbc_grammar.specs.declared.token.TokenKind.TheVariants.{Name, Number, Text, Mark}

-- White space: tab, line feed, vertical tab, form feed, carriage return, and space (the dialect).
abbrev pub is_gap : ℕ → Bool
is_gap b = (nat_le 9 b && nat_le b 13) || (b == 32)

-- a text begins and ends with a quote
abbrev pub is_quote : ℕ → Bool
is_quote b = b == quote_mark

-- the punctuation of Vector's statements
abbrev pub is_mark : ℕ → Bool
is_mark b = list_any (λ mark. b == mark) (codes ":;,|@()[]+-")

-- a text, with its quotes
abbrev pub quoted : List ℕ → List ℕ
quoted inside = codes "\"" ++ (inside ++ codes "\"")

-- The bytes spell one token of the kind. A name is a C identifier, keywords too. A number is an unsigned integer or
-- double: its sign is a mark of its own. A text has its quotes. A mark is one byte.
abbrev pub Spells : TokenKind → List ℕ → Type 0
Spells Name word = IsTrue (is_c_identifier word)
Spells Number word = (parts : Spelling) × IsNumberToken word parts
Spells Text word = (inside : List ℕ) × IsText inside × (word ≡ quoted inside)
Spells Mark word = (mark : ℕ) × IsTrue (is_mark mark) × (word ≡ mark ∷ [])
