use Rattle.store_net.proofs.Common.{◌≡◌, ◌++◌, drop, IsPermutation, live_messages}
use Rattle.store_net.proofs.live.live_sheet.Given as goal

abbrev pub invariant-loop-one : goal.invariant-loop-one
invariant-loop-one l = record {
  all : IsPermutation (live_messages l.live) (l.sheet.messages ++ live_messages (drop l.one-index l.live));
  rest : l.sheet ≡ record l.initial.sheet { messages = l.sheet.messages };
}
