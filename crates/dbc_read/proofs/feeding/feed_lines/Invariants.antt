use Rattle.dbc_read.proofs.Common.{◌≡◌, ◌++◌, drop, map, take, message_of}
use Rattle.dbc_read.specs.Attaching.{each_fed, line_signals}
use Rattle.dbc_read.proofs.feeding.feed_lines.Given as goal

abbrev pub invariant-loop-at : goal.invariant-loop-at
invariant-loop-at l = record {
  stays : map message_of l.lines ≡ map message_of l.initial.lines;
  fed : map line_signals (take l.at l.lines) ++ each_fed (map message_of (drop l.at l.lines)) l.feeds
      ≡ each_fed (map message_of l.initial.lines) l.initial.feeds;
}
