-- Computed rows of how far statements are settled.
use Rattle.dbc_read.proofs.Common.{List, [], ◌∷◌, refl, Token, statement_of, MessageLine, Statement}
use Rattle.dbc_grammar.specs.Parsing.{statements_at}
use Rattle.dbc_read.specs.Gathering.{BeginWith, Settles}
use Rattle.dbc_read.specs.Settling.{AreSettled, ReadUpTo, SettlesTo}
use Rattle.dbc_read.specs.declared.finding.Finders.{Finders}
use Rattle.dbc_read.specs.declared.gathered.Gathered.{Gathered}
use Rattle.dbc_read.specs.declared.settling.Settled.TheVariants as settled
use Rattle.dbc_read.proofs.GatheringRows.{nothing}
use Rattle.dbc_read.proofs.LateRows.{nothing_is_stated}
use Rattle.dbc_read.proofs.Settled.{none_settled}

-- where a late statement is the first of the tokens, none comes before it
late_is_first : (late : Statement) (tokens rest : List Token) → BeginWith (statement_of late ∷ []) tokens rest
    → ReadUpTo (settled.UpTo late) [] tokens rest
late_is_first late tokens rest begin = begin

-- no statements settle nothing
none_settle : (f : Finders) (lines : List MessageLine) (g : Gathered) → Settles f [] lines g lines g
none_settle f lines g = none_settled f lines g

-- nor do no tokens, which are read to the end
no_tokens_settle : (f : Finders) (lines : List MessageLine) (g : Gathered)
    → SettlesTo f settled.All [] [] lines g lines g
unfolding statements_at
no_tokens_settle f lines g = record { stated = []; read = refl; none = tt; gathered = none_settled f lines g }

-- nothing is gathered of no tokens
no_tokens_are_settled : AreSettled settled.All [] [] nothing
unfolding statements_at
no_tokens_are_settled = record { stated = []; read = refl; gathered = nothing_is_stated }
