-- Computed rows of what is gathered.
use Rattle.dbc_read.proofs.Common.{◌≡◌, ℕ, [], ◌∷◌, None, Some, nat_eq, refl, codes, Nodes, MessageLine}
use Rattle.dbc_grammar.specs.Parsing.{statements_at}
use Rattle.dbc_grammar.specs.Statement as dbc
use Rattle.dbc_read.specs.Attaching.{commented}
use Rattle.dbc_read.specs.Gathering.{BeginWith, IsGathered, finished, with_nothing_attached}
use Rattle.dbc_read.specs.Settling.{ReadUpTo}
use Rattle.dbc_read.specs.declared.finding.Finders.{Finders}
use Rattle.dbc_read.specs.declared.gathered.Gathered.{Gathered}
use Rattle.dbc_read.specs.declared.passed.Passed.{Passed}
use Rattle.dbc_read.specs.declared.settling.Settled.TheVariants as settled
use Rattle.dbc_statements.specs.declared.statement.Content.TheVariants as content

-- nothing is gathered
abbrev pub nothing : Gathered
nothing = record {
  version = None;
  comment = None;
  nodes = [];
  tables = [];
  messages = [];
  node_comments = [];
  message_comments = [];
  signal_comments = [];
  signal_values = [];
  signal_types = [];
  signal_spns = [];
  passed = [];
}

-- of the keys 1 and 2 with the values 5 and 6 so far, the second has a pair left, and the last pair counts
second_is_finished : finished {K = ℕ} {V = ℕ} nat_eq 0 ((2, 7) ∷ (2, 8) ∷ []) (1 ∷ 2 ∷ []) (5 ∷ 6 ∷ []) ≡ 5 ∷ 8 ∷ []
second_is_finished = refl

-- of two lines the first has the comment
first_has_it : (a b : MessageLine) → commented (a ∷ b ∷ []) ((67 ∷ []) ∷ []) ≡ (a, 67 ∷ []) ∷ (b, []) ∷ []
first_has_it a b = refl

-- no tokens begin with no statements
none_begin : BeginWith [] [] []
unfolding statements_at
none_begin = refl

-- no tokens are those of no statements, all of which are settled
none_settled : ReadUpTo settled.All [] [] []
unfolding statements_at
none_settled = refl

-- where one node is all that is defined, it alone has nothing attached
node_has_nothing : (g : Gathered)
    → with_nothing_attached (record { start = 0; keyword = Nodes; content = dbc.NodesAre (codes "A" ∷ []) } ∷ []) g
    ≡ record g {
      node_comments = [] ∷ [];
      message_comments = [];
      signal_comments = [];
      signal_values = [];
      signal_types = [];
      signal_spns = [];
    }
node_has_nothing g = refl

-- a version is gathered, and cites nothing
version_is_gathered : (f : Finders) (p : Passed) (g : Gathered)
    → IsGathered f p (content.Version (codes "1.0")) g (record g { version = Some (codes "1.0") })
version_is_gathered f p g = record { none = refl; index = None; is = λ lines statements finds. tt; gathered = refl }
