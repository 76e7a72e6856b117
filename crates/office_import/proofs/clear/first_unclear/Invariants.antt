use Rattle.office_import.proofs.Common.{◌≡◌, None, take, flat_map, first_refusal, clear_tests}
use Rattle.office_import.proofs.clear.first_unclear.Given as goal

abbrev pub invariant-loop-message : goal.invariant-loop-message
invariant-loop-message l = first_refusal (flat_map clear_tests (take l.message-index l.messages)) ≡ None
