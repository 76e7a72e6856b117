use Rattle.page_messages.proofs.Common.{take, flat_map, Becomes, adding}
use Rattle.page_messages.specs.Signals.{listed_of, signal_row}
use Rattle.page_messages.specs.declared.shown.Shown.{Shown}
use Rattle.page_messages.proofs.signals.put_table.Given as goal

abbrev pub invariant-loop-signal : goal.invariant-loop-signal
invariant-loop-signal l =
    Becomes l.page (adding (flat_map (λ (s : Shown). signal_row l.columns l.bytes (listed_of s))
    (take l.signal-index l.shown)) l.initial.page)
