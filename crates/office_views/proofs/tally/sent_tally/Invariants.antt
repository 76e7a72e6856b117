use Rattle.std.proofs.Common.{◌≡◌, ℕ, List, take}
use Rattle.std.specs.Prelude.{count_by}
use Rattle.office_views.specs.Sending.{sends}
use Rattle.office_views.specs.Tally.{times}
use Rattle.office_views.proofs.tally.sent_tally.Given as goal

abbrev pub invariant-loop-message : goal.invariant-loop-message
invariant-loop-message l = (n : List ℕ) → times l.tally n ≡ count_by (sends n) (take l.message-index l.messages)
