use Rattle.dbc_lint.proofs.Common.{◌≡◌, drop, find}
use Rattle.dbc_lint.specs.OfMessage.{is_sent_from}
use Rattle.dbc_lint.proofs.of_message.first_sent.Given as goal

-- the one that is looked for is among those that are left
abbrev pub invariant-loop-message : goal.invariant-loop-message
invariant-loop-message l = find (is_sent_from l.address) l.messages
    ≡ find (is_sent_from l.address) (drop l.message-index l.messages)
