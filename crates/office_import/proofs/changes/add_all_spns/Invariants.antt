use Rattle.office_import.proofs.Common.{◌≡◌, ◌++◌, map, take, EnterSpn, new_messages, spns_of}
use Rattle.office_import.proofs.changes.add_all_spns.Given as goal

abbrev pub invariant-loop-message : goal.invariant-loop-message
invariant-loop-message l =
    l.changes ≡ l.fn.changes ++ map EnterSpn (spns_of (new_messages l.index (take l.message-index l.messages)))
