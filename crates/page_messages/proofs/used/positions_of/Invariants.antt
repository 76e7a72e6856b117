use Rattle.page_messages.proofs.Common.{ℕ, ◌<◌, ◌↔◌, IsTrue, take, Has, mask_end}
use Rattle.page_messages.specs.Used.{has_position}
use Rattle.page_messages.proofs.used.positions_of.Given as goal

abbrev pub invariant-loop-signal : goal.invariant-loop-signal
invariant-loop-signal l = (q : ℕ) → q < mask_end
    → Has l.mask q ↔ IsTrue (has_position (take l.signal-index l.signals) q)
