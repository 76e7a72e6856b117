use Rattle.office_import.proofs.Common.{◌≡◌, ℕ, List, take, contains, text_cmp, has_name}
use Rattle.office_import.proofs.names.names_of.Given as goal

abbrev pub invariant-loop-thing : goal.invariant-loop-thing
invariant-loop-thing g l = (n : List ℕ)
    → contains text_cmp l.names n ≡ has_name g.T.Named.name_of (take l.thing-index l.things) n
