use Rattle.std.proofs.Common.{◌≡◌, ◌++◌, drop, map}
use Rattle.std.specs.Prelude.{string_bytes}
use Rattle.office_reasons.specs.Pieces.{shown}
use Rattle.office_reasons.proofs.few.names_of.Given as goal

abbrev pub invariant-loop-thing : goal.invariant-loop-thing
invariant-loop-thing g l = map (λ s. string_bytes s) l.names.items
    ++ map (λ x. shown (g.T.Named.name_of x)) (drop l.thing-index l.things)
    ≡ map (λ x. shown (g.T.Named.name_of x)) l.things
