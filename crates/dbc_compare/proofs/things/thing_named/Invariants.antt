use Rattle.dbc_compare.proofs.Common.{◌≡◌, drop, thing_named}
use Rattle.dbc_compare.proofs.things.thing_named.Given as goal

-- the one that is looked for is among those that are left
abbrev pub invariant-loop-thing : goal.invariant-loop-thing
invariant-loop-thing g l = thing_named g.T.Named.name_of l.things l.name
    ≡ thing_named g.T.Named.name_of (drop l.thing-index l.things) l.name
