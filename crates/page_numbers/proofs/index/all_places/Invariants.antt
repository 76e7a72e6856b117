use Rattle.page_numbers.proofs.Common.{◌≡◌, ◌≤◌, take, flat_map}
use Rattle.page_numbers.specs.Index.{numbered}
use Rattle.page_numbers.proofs.index.all_places.Given as goal

abbrev pub invariant-loop-message : goal.invariant-loop-message
invariant-loop-message l = record {
  all : l.places.items ≡ flat_map (numbered l.form) (take l.message-index l.messages);
  few : l.index ≤ l.message-index;
}
