-- Computed rows of definitions that come after something was cited.
use Rattle.dbc_read.proofs.Common.{◌≡◌, ◌++◌, true, List, [], ◌∷◌, None, refl, sym, append-nil, subst, codes, Nodes}
use Rattle.dbc_read.proofs.Common.{content_of, statement_of, MessageLine, Statement}
use Rattle.dbc_grammar.specs.Parsing.{statements_at}
use Rattle.dbc_grammar.specs.Statement as dbc
use Rattle.dbc_read.specs.Definitions.{AreDefinitions}
use Rattle.dbc_read.specs.Gathered.{AreGathered, gathered_after, passed_of}
use Rattle.dbc_read.specs.Gathering.{defines}
use Rattle.dbc_read.specs.Late.{DefineAll, DefineLate, FollowAll, GathersApart, IsFound, SettlesApart, SettlesOthers}
use Rattle.dbc_read.specs.declared.finding.Finders.{Finders}
use Rattle.dbc_read.specs.declared.gathered.Gathered.{Gathered}
use Rattle.dbc_read.specs.declared.one_by_one.Found.TheVariants as found
use Rattle.dbc_read.proofs.Apart.{none_apart, skipped_apart}
use Rattle.dbc_read.proofs.DefinitionsAlone.{one_gathered}
use Rattle.dbc_read.proofs.GatheringRows.{nothing}

pub nothing_is_stated : AreGathered [] nothing
nothing_is_stated = record {
  version = refl;
  comment = refl;
  nodes = refl;
  tables = refl;
  messages = refl;
  node_comments = λ distinct. refl;
  message_comments = λ distinct. refl;
  signal_comments = λ distinct. refl;
  signal_values = λ distinct. refl;
  signal_types = λ distinct. refl;
  signal_spns = λ distinct. refl;
  passed = refl;
}

-- where no tokens come after a late statement, what it defines is gathered, and no more
late_alone : (late : Statement) (g : Gathered)
    → DefineLate late [] g (gathered_after None (passed_of late) late.content g)
unfolding statements_at
late_alone late g = record {
  stated = [];
  read = refl;
  are = λ before are. subst (λ ss. AreDefinitions ss (gathered_after None (passed_of late) late.content g))
      (sym (append-nil (before ++ statement_of late ∷ []))) (one_gathered late g _ refl before are);
}

-- no tokens define nothing
none_define : DefineAll [] nothing
unfolding statements_at
none_define = record { stated = []; read = refl; are = record { nodes = refl; tables = refl; messages = refl } }

-- so nothing is found of them, be it all that they say or what they define
all_is_found : IsFound [] (found.All nothing)
unfolding statements_at
all_is_found = record { stated = []; read = refl; gathered = nothing_is_stated }

definitions_are_found : IsFound [] (found.Definitions nothing)
definitions_are_found = none_define

-- of `BU_: A` all but the node itself is gathered: nothing is attached to it
node_is_apart : GathersApart (record { start = 0; keyword = Nodes; content = dbc.NodesAre (codes "A" ∷ []) } ∷ [])
    (record nothing { node_comments = [] ∷ [] }) []
node_is_apart = record {
  nodes = record { at = 5; name = codes "A" } ∷ [];
  messages = [];
  gathers = record {
    version = refl;
    comment = refl;
    nodes = refl;
    tables = refl;
    messages = refl;
    node_comments = λ distinct. refl;
    message_comments = λ distinct. refl;
    signal_comments = λ distinct. refl;
    signal_values = λ distinct. refl;
    signal_types = λ distinct. refl;
    signal_spns = λ distinct. refl;
    passed = refl;
  };
}

-- a definition changes nothing of what is gathered apart
definition_changes_nothing : (f : Finders) (s : Statement) (lines : List MessageLine) (g : Gathered)
    → defines (content_of s.content) ≡ true → SettlesApart f (statement_of s ∷ []) lines g lines g
definition_changes_nothing f s lines g does = skipped_apart f [] s lines lines g g does (none_apart f lines g)

-- nothing changes where no tokens are left
none_are_left : (f : Finders) (lines : List MessageLine) (g : Gathered) → SettlesOthers f [] lines g lines g
unfolding statements_at
none_are_left f lines g = record { stated = []; read = refl; gathered = none_apart f lines g }

-- no tokens say nothing, where no nodes and messages are defined
none_follow : FollowAll [] [] [] [] nothing
unfolding statements_at
none_follow = record { stated = []; read = refl; gathered = λ nodes messages. nothing_is_stated }
