use Rattle.store.proofs.Common.{◌≡◌, List, length, take, All, IsErr, IsTrue, state, HasCleanDisk, Answered}
use Rattle.std.proofs.Common.{◌≤◌}
use Rattle.std.specs.Vec.{vec_capacity, vec_len}
use Rattle.sqlite_trees.specs.View.{doubt}
use Rattle.store.specs.Holding.{Holding}
use Rattle.store.specs.Headline.{HasRunOnTables}
use Rattle.store.specs.Opening.{HasTables}
use Rattle.store.specs.Running.{FailsBy, IsNoProfile, answered_of}
use Rattle.store.proofs.ListOfArrivals.{IsAsBefore, IsSame, KeepThose, Repeats}
use Rattle.store.proofs.stored_office.StoredOffice.run.Given as goal

abbrev pub invariant-loop-arrival : goal.invariant-loop-arrival
invariant-loop-arrival g l =
    let old = state g.S.Store l.fn.self.conn in
    let now = state g.S.Store l.self.conn in
    record {
      len : vec_len l.results ≡ l.arrival-index;
      room : length l.arrivals ≤ vec_capacity l.results;
      refused : IsTrue l.fn.self.failed → l.self ≡ l.fn.self;
      failed : FailsBy l.fn.self.failed l.results.items l.self.failed;
      named : All IsNoProfile l.results.items;
      clean : doubt old.is_clean ≤ doubt now.is_clean;
      lost_same : HasCleanDisk now → HasTables old → All IsErr l.results.items → IsAsBefore l.self.failed old now;
      repeated : HasCleanDisk now → (h : List Answered) → Holding h old
          → All (Repeats h) (answered_of (take l.arrival-index l.arrivals) l.results.items) → IsTrue now.is_open
          → IsSame old now;
      statistics : HasCleanDisk now → (h : List Answered) → Holding h old → KeepThose old now;
      ran : HasCleanDisk now → (h : List Answered) → Holding h old
          → HasRunOnTables h (take l.arrival-index l.arrivals) l.results.items l.self.failed now;
    }
