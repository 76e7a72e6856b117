use Rattle.page_numbers.proofs.Common.{◌≡◌, take, flat_map}
use Rattle.office_blocks.specs.Blocks.{spns_of}
use Rattle.page_numbers.proofs.spns.spns_in.Given as goal

abbrev pub invariant-loop-message : goal.invariant-loop-message
invariant-loop-message l = l.numbers.items ≡ flat_map spns_of (take l.message-index l.messages)
