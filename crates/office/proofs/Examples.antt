-- A worked example, computed from the definitions: what is kept after repeats, where the office has moved on.
use Rattle.office.proofs.Common.{List, [], ◌∷◌, refl}
use Rattle.std.proofs.Common.{codes}
use Rattle.office_types.specs.declared.reply.Reply.TheVariants.{Done, Number}
use Rattle.office_rules.proofs.TeamCommand.{engine, office}
use Rattle.office_history.specs.declared.arrival.Answer.TheVariants as answer
use Rattle.office_history.proofs.Examples.{after, it_is_legal, moved_on}
use Rattle.office.specs.Keyed.{HoldsHistory, Kept}

-- seven arrivals: the sixth repeats the third, and the seventh reuses its key
abbrev kept_five : List Kept
kept_five =
    record { team = office; key = codes "o1"; content = codes "open_net"; answer = answer.Reply Done }
    ∷ record { team = office; key = codes "o2"; content = codes "grant"; answer = answer.Reply Done }
    ∷ record { team = engine; key = codes "a1"; content = codes "take E1"; answer = answer.Reply (Number 256) }
    ∷ record { team = engine; key = codes "a2"; content = codes "retire E1"; answer = answer.Reply Done }
    ∷ record { team = engine; key = codes "a3"; content = codes "take E2"; answer = answer.Reply (Number 256) } ∷ []

moved_on_is_held : HoldsHistory moved_on (record { office = after 5; kept = kept_five })
moved_on_is_held = record { legal = it_is_legal; kept = refl }
