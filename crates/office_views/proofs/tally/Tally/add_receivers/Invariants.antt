use Rattle.std.proofs.Common.{◌≡◌, ◌+◌, ◌||◌, ℕ, List, false, take}
use Rattle.std.specs.List.{list_any}
use Rattle.dbc_words.specs.Named.{holds_name}
use Rattle.office_views.specs.Sending.{receives}
use Rattle.office_views.specs.Tally.{once, times}
use Rattle.office_views.proofs.tally.Tally.add_receivers.Given as goal

abbrev pub invariant-loop-signal : goal.invariant-loop-signal
invariant-loop-signal l = record {
  seen : (n : List ℕ) → holds_name l.seen n ≡ (list_any (receives n) (take l.signal-index l.signals) || false);
  times : (n : List ℕ) → times l.self n ≡ times l.initial.self n + once (holds_name l.seen n);
}
