use Rattle.dbc_compare.proofs.Common.{◌≡◌, take}
use Rattle.dbc_compare.specs.Differences.{kept_names}
use Rattle.dbc_compare.proofs.things.kept_names.Given as goal

abbrev pub invariant-loop-thing : goal.invariant-loop-thing
invariant-loop-thing g l = l.names.items ≡ kept_names g.T.Named.name_of (take l.thing-index l.things) l.others
