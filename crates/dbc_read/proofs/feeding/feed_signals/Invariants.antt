use Rattle.dbc_read.proofs.Common.{◌≡◌, ◌++◌, drop, take, signals_of}
use Rattle.dbc_read.specs.Built.{feeds_after, signals_from}
use Rattle.dbc_read.proofs.feeding.feed_signals.Given as goal

abbrev pub invariant-loop-at : goal.invariant-loop-at
invariant-loop-at l = record {
  stays : signals_of l.signals ≡ signals_of l.initial.signals;
  fed : take l.at l.signals ++ signals_from (signals_of (drop l.at l.signals)) l.feeds
      ≡ signals_from (signals_of l.initial.signals) l.initial.feeds;
  left : feeds_after (signals_of (drop l.at l.signals)) l.feeds ≡ feeds_after (signals_of l.initial.signals)
      l.initial.feeds;
}
