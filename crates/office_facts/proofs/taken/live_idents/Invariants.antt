use Rattle.std.proofs.Common.{◌≡◌, map, take}
use Rattle.office_facts.proofs.taken.live_idents.Given as goal

abbrev pub invariant-loop-one : goal.invariant-loop-one
invariant-loop-one l = l.idents.items ≡ map (λ m. m.message.ident) (take l.one-index l.live)
