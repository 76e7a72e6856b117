use Rattle.dbc_compare.proofs.Common.{◌≡◌, ◌++◌, drop, partner}
use Rattle.dbc_compare.specs.Differences.{by_numbers, gone_message, message_differences, shown_message}
use Rattle.dbc_compare.proofs.messages.push_messages.Given as goal

-- those so far, and those of the messages that are left
abbrev pub invariant-loop-message : goal.invariant-loop-message
invariant-loop-message l = l.initial.found.items ++ message_differences l.old.messages l.new.messages
    ≡ l.found.items ++ by_numbers (λ m. gone_message (partner l.new.messages l.old.messages m) m)
    (λ m. shown_message (partner l.old.messages l.new.messages m) m) l.rest (drop l.message-index l.message-items)
