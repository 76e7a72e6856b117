use Rattle.dbc_words.proofs.Common.{take}
use Rattle.dbc_words.specs.Named.{HasNamesOf}
use Rattle.dbc_words.proofs.name_index.names_of.Given as goal

abbrev pub invariant-loop-thing : goal.invariant-loop-thing
invariant-loop-thing g l = HasNamesOf g.T.Named.name_of (take l.thing-index l.things) l.names
