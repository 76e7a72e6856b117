use Rattle.store_rows.proofs.Common.{ℕ, List, drop, Signal}
use Rattle.store_rows.specs.Listed.{AreShown}
use Rattle.store_rows.specs.Live.{parts_of}
use Rattle.store_rows.specs.SignalShowing.{PlacesAscend, ShowsPart, ShowsPlaced, ShowsReceiver, ShowsValueText}
use Rattle.store_rows.proofs.PutTogether.{AreLeft, receivers_in, values_in}
use Rattle.store_rows.proofs.merging.signals_in.Given as goal

abbrev pub invariant-loop-row : goal.invariant-loop-row
invariant-loop-row l = (placed : List (ℕ × Signal)) → PlacesAscend placed → AreShown ShowsPlaced placed l.sigs
    → AreShown (ShowsPart ShowsReceiver) (parts_of receivers_in placed) l.receivers
    → AreShown (ShowsPart ShowsValueText) (parts_of values_in placed) l.values
    → AreLeft placed l.signals.items (drop l.row-index l.sigs) l.names l.texts
