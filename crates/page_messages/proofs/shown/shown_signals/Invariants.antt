use Rattle.page_messages.proofs.Common.{◌≡◌, map, take}
use Rattle.page_messages.specs.Signals.{listed, listed_of}
use Rattle.page_messages.proofs.shown.shown_signals.Given as goal

abbrev pub invariant-loop-index : goal.invariant-loop-index
invariant-loop-index l = map listed_of l.shown.items ≡ listed l.marks l.message (take l.index l.signals)
