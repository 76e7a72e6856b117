use Rattle.office_blocks.proofs.Common.{◌≡◌, map, take}
use Rattle.office_blocks.proofs.numbers.live_idents.Given as goal

abbrev pub invariant-loop-message : goal.invariant-loop-message
invariant-loop-message l = l.idents.items ≡ map (λ m. m.ident) (take l.message-index l.messages)
