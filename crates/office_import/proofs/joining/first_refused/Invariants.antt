use Rattle.office_import.proofs.Common.{◌≡◌, None, take, flat_map, first_refusal, message_import_tests}
use Rattle.office_import.proofs.joining.first_refused.Given as goal

abbrev pub invariant-loop-message : goal.invariant-loop-message
invariant-loop-message l =
    first_refusal (flat_map (message_import_tests l.team l.index) (take l.message-index l.messages)) ≡ None
