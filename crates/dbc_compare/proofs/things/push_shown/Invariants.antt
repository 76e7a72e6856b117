use Rattle.dbc_compare.proofs.Common.{◌≡◌, ◌++◌, take, flat_map}
use Rattle.dbc_compare.specs.Differences.{shown_thing}
use Rattle.dbc_compare.proofs.things.push_shown.Given as goal

abbrev pub invariant-loop-thing : goal.invariant-loop-thing
invariant-loop-thing g l = l.found.items ≡ l.initial.found.items
    ++ flat_map (shown_thing l.place g.T.Named.name_of g.T.Compared.changes_of l.old) (take l.thing-index l.new)
