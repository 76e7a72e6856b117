use Rattle.office_import.proofs.Common.{◌≡◌, ◌++◌, map, take, SetMessage, new_messages, owned_by}
use Rattle.office_import.proofs.changes.add_messages.Given as goal

abbrev pub invariant-loop-message : goal.invariant-loop-message
invariant-loop-message l =
    l.changes ≡ l.fn.changes ++ map (λ m. SetMessage (owned_by l.team m))
    (new_messages l.index (take l.message-index l.messages))
