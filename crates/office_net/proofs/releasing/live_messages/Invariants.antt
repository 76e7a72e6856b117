use Rattle.std.proofs.Common.{◌≡◌, take}
use Rattle.office_types.specs.State.{live_messages}
use Rattle.office_net.proofs.releasing.live_messages.Given as goal

abbrev pub invariant-loop-one : goal.invariant-loop-one
invariant-loop-one l = l.messages ≡ live_messages (take l.one-index l.live)
