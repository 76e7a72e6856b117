-- A file is a sequence of statements in any order: its division into them, and the laws by which there is one at most.
use Rattle.std.specs.Prelude.{◌≡◌, true, ◌↔◌, List, [], ◌∷◌, ◌++◌, map, Some}
use Rattle.dbc_grammar.specs.Grammar.{next, statement}
use Rattle.dbc_grammar.specs.Parsing.{statements_at}
use Rattle.dbc_grammar.specs.Rules.{many}
use Rattle.dbc_grammar.specs.Statement.{Statement}
use Rattle.dbc_grammar.specs.Token.{Token}

-- the run of tokens is the statement if rest follows it
abbrev pub IsStatement : List Token → Statement → List Token → Type 0
IsStatement run s rest = statement (run ++ rest) s rest

-- Fix a first token. Of all runs that start there and are followed by the end or by a keyword other than `SG_`, at most
-- one is a statement, and it can be read in only one way.
abbrev pub OneStatement : Type 0
OneStatement = (run other rest more : List Token) (s t : Statement)
    → run ++ rest ≡ other ++ more → next rest ≡ true → next more ≡ true
    → IsStatement run s rest → IsStatement other t more → (run ≡ other) × (s ≡ t)

-- what a statement leaves is what follows a run of tokens, and that isn't empty
abbrev pub StatementsAreRuns : Type 0
StatementsAreRuns = (ts : List Token) (s : Statement) (rest : List Token)
    → statement ts s rest → (first : Token) × (run : List Token) × (ts ≡ first ∷ (run ++ rest))

-- the tokens are these statements, one after the other
abbrev pub Divides : List Token → List Statement → Type 0
Divides ts ss = many statement ts ss []

abbrev pub OneDivision : Type 0
OneDivision = (ts : List Token) (ss us : List Statement) → Divides ts ss → Divides ts us → ss ≡ us

-- a run of tokens, and the statement that it is
pub record Part : Type 0 where
  pub run : List Token
  pub is : Statement

-- the tokens are these runs, one after the other, and each of them is its statement
abbrev pub AreParts : List Token → List Part → Type 0
AreParts ts [] = ts ≡ []
AreParts ts (part ∷ parts) =
    (rest : List Token) × (ts ≡ part.run ++ rest) × IsStatement part.run part.is rest × AreParts rest parts

-- the statements of such runs are a division, and each division has such runs
abbrev pub DivisionsAreParts : Type 0
DivisionsAreParts = (ts : List Token) (ss : List Statement)
    → Divides ts ss ↔ ((parts : List Part) × AreParts ts parts × (map (λ p. p.is) parts ≡ ss))

-- the runs are determined too
abbrev pub OneParting : Type 0
OneParting = (ts : List Token) (ps qs : List Part) → AreParts ts ps → AreParts ts qs → ps ≡ qs

-- the computed reading is the division
abbrev pub ReadingIsExact : Type 0
ReadingIsExact = (ts : List Token) (ss : List Statement) → Divides ts ss ↔ (statements_at ts ≡ Some ss)
