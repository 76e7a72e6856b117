use Rattle.page_messages.proofs.Common.{◌≡◌, All, take, flat_map}
use Rattle.page_messages.specs.Bits.{held_of}
use Rattle.page_messages.proofs.Holders.{IsSmall}
use Rattle.page_messages.proofs.bits.held_bits.Given as goal

abbrev pub invariant-loop-by : goal.invariant-loop-by
invariant-loop-by l = record {
  items : l.held.items ≡ flat_map (held_of l.end) (take l.by-index l.signals);
  few : All IsSmall (take l.by-index l.signals);
}
