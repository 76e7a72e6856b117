use Rattle.dbc_compare.proofs.Common.{◌≡◌, ◌++◌, take, flat_map}
use Rattle.dbc_compare.specs.Differences.{gone_thing}
use Rattle.dbc_compare.proofs.things.push_gone.Given as goal

abbrev pub invariant-loop-thing : goal.invariant-loop-thing
invariant-loop-thing g l = l.found.items
    ≡ l.initial.found.items ++ flat_map (gone_thing l.place g.T.Named.name_of l.new) (take l.thing-index l.old)
