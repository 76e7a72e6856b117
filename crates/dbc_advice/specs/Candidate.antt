-- What may come in a statement, kind by kind: the table of all that may be wanted.
use Rattle.std.specs.Prelude.{ℕ, List, [], ◌∷◌, codes}
use Rattle.dbc_advice.specs.declared.candidate.Candidate.{Candidate}
use Rattle.dbc_advice.specs.declared.candidate.Candidate.TheVariants.{Number, AnyName, Name, Text, Indicator, Semicolon}
use Rattle.dbc_advice.specs.declared.candidate.Candidate.TheVariants.{Colon, Comma, Bar, At, LeftParenthesis}
use Rattle.dbc_advice.specs.declared.candidate.Candidate.TheVariants.{RightParenthesis, LeftBracket, RightBracket, Plus}
use Rattle.dbc_advice.specs.declared.candidate.Candidate.TheVariants.{Minus, Statement, Signal, Nodes, Message}
use Rattle.dbc_advice.specs.declared.candidate.Candidate.TheVariants.{EnvironmentVariable, BitTiming}

-- a token of the kind
abbrev pub sample_of : Candidate → List ℕ
sample_of Number = codes "1"
sample_of AnyName = codes "SG_MUL_VAL_"
sample_of Name = codes "Name"
sample_of Text = 34 ∷ 34 ∷ []
sample_of Indicator = codes "M"
sample_of Semicolon = codes ";"
sample_of Colon = codes ":"
sample_of Comma = codes ","
sample_of Bar = codes "|"
sample_of At = codes "@"
sample_of LeftParenthesis = codes "("
sample_of RightParenthesis = codes ")"
sample_of LeftBracket = codes "["
sample_of RightBracket = codes "]"
sample_of Plus = codes "+"
sample_of Minus = codes "-"
sample_of Statement = codes "VERSION"
sample_of Signal = codes "SG_"
sample_of Nodes = codes "BU_"
sample_of Message = codes "BO_"
sample_of EnvironmentVariable = codes "EV_"
sample_of BitTiming = codes "BS_"

-- how a sentence names the kind
abbrev pub phrase_of : Candidate → List ℕ
phrase_of Number = codes "a number"
phrase_of AnyName = codes "a name"
phrase_of Name = codes "a name"
phrase_of Text = codes "a text in quotes"
phrase_of Indicator = codes "an indicator (M or m0)"
phrase_of Semicolon = codes "';'"
phrase_of Colon = codes "':'"
phrase_of Comma = codes "','"
phrase_of Bar = codes "'|'"
phrase_of At = codes "'@'"
phrase_of LeftParenthesis = codes "'('"
phrase_of RightParenthesis = codes "')'"
phrase_of LeftBracket = codes "'['"
phrase_of RightBracket = codes "']'"
phrase_of Plus = codes "'+'"
phrase_of Minus = codes "'-'"
phrase_of Statement = codes "the keyword of a statement"
phrase_of Signal = codes "SG_"
phrase_of Nodes = codes "BU_"
phrase_of Message = codes "BO_"
phrase_of EnvironmentVariable = codes "EV_"
phrase_of BitTiming = codes "BS_"
