use Rattle.dbc_compare.proofs.Common.{◌≡◌, ◌++◌, take, flat_map, partner}
use Rattle.dbc_compare.specs.Differences.{gone_message}
use Rattle.dbc_compare.proofs.messages.push_gone.Given as goal

abbrev pub invariant-loop-message : goal.invariant-loop-message
invariant-loop-message l = l.found.items ≡ l.initial.found.items
    ++ flat_map (λ m. gone_message (partner l.new.messages l.old.messages m) m) (take l.message-index l.messages)
