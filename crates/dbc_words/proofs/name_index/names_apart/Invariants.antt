use Rattle.dbc_words.proofs.Common.{take}
use Rattle.dbc_words.specs.Named.{AreNamedApart, HasNamesOf}
use Rattle.dbc_words.proofs.name_index.names_apart.Given as goal

abbrev pub invariant-loop-thing : goal.invariant-loop-thing
invariant-loop-thing g l =
    record {
      set : HasNamesOf g.T.Named.name_of (take l.thing-index l.things) l.names;
      apart : AreNamedApart g.T.Named.name_of (take l.thing-index l.things);
    }
