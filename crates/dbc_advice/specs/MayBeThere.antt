-- What may come after the beginning of a statement.
use Rattle.std.specs.Prelude.{ℕ, List, ◌++◌, codes}
use Rattle.dbc_advice.specs.Candidate.{sample_of}
use Rattle.dbc_advice.specs.GoesOn.{GoesOn}
use Rattle.dbc_advice.specs.declared.candidate.Candidate.{Candidate}

-- the text with a space and a token of the kind after it
abbrev pub continued : List ℕ → Candidate → List ℕ
continued before candidate = before ++ (codes " " ++ sample_of candidate)

-- it goes on so
abbrev pub MayBeThere : List ℕ → Candidate → Type 0
MayBeThere before candidate = GoesOn (continued before candidate)
