-- An office that is read between two connections, for a report.
use Rattle.desk.proofs.Common.{◌≡◌, ◌∙◌, ◌⊎◌, List, Result, Ok, Err, inl, inr, refl, sym, ap, subst, arith, IsTrue}
use Rattle.desk.proofs.Common.{IsFalse, state, HasCleanDisk, Answered, itself_keeps, itself_leaves}
use Rattle.std.proofs.lemmas.Bool.{false≢true}
use Rattle.sqlite_trees.specs.declared.store.Store.{Ghosts}
use Rattle.store.specs.Calls.{HoldsOnErr, HoldsOnOk, IsOfficeCall, KeepsStatistics, LeavesHistory, LeavesStatistics}
use Rattle.store.specs.Office.{OfficeView}
use Rattle.store.specs.declared.lost.Lost.{Lost}
use Rattle.store.specs.declared.lost.Lost.TheVariants.{Memory, Store, NewerProfile, OlderProfile}
use Rattle.desk.specs.Noted.{IsLeftAlone}
use Rattle.desk.specs.Serving.{HasServedAll, Visit}
use Rattle.desk.proofs.Visits.{LeavesNow, decides, left_now}

-- nothing was read
pub left_alone : {S : Type 0} (g : Ghosts S) (office : OfficeView S) → LeavesNow (state g office.conn)
    → IsLeftAlone g office office
left_alone g office law = record {
  clean = omega arith;
  refused = λ failed. refl;
  opened = λ clean h holding works. holding.is_open;
  held = λ clean h holding opened. holding;
  left = λ clean h holding. left_now h (state g office.conn) law holding;
  statistics = itself_keeps g office.conn;
  statistics_left = itself_leaves g office.conn;
}

-- a call of the office that changes nothing
pub read_alone : {S X : Type 0} (g : Ghosts S) (old new : OfficeView S) (r : Result X Lost)
    → IsOfficeCall g old new r → HoldsOnOk g old.conn new.conn r → HoldsOnErr g old.conn new.conn r
    → LeavesHistory g old.conn new.conn → KeepsStatistics g old.conn new.conn → LeavesStatistics g old.conn new.conn
    → IsLeftAlone g old new
read_alone g old new (Ok found) call ok err left statistics statistics_left = record {
  clean = call.clean;
  refused = call.refused;
  opened = λ clean h holding works. (ok clean h holding).is_open;
  held = λ clean h holding opened. ok clean h holding;
  left = left;
  statistics = statistics;
  statistics_left = statistics_left;
}
read_alone g old new (Err Memory) call ok err left statistics statistics_left = record {
  clean = call.clean;
  refused = call.refused;
  opened = λ clean h holding works. call.memory clean refl;
  held = λ clean h holding opened. err clean h holding opened;
  left = left;
  statistics = statistics;
  statistics_left = statistics_left;
}
read_alone g old new (Err Store) call ok err left statistics statistics_left = record {
  clean = call.clean;
  refused = call.refused;
  opened = λ clean h holding works. absurd (false≢true (sym works ∙ call.failed.1 refl));
  held = λ clean h holding opened. err clean h holding opened;
  left = left;
  statistics = statistics;
  statistics_left = statistics_left;
}
read_alone g old new (Err NewerProfile) call ok err left statistics statistics_left = absurd (call.named.0 refl)
read_alone g old new (Err OlderProfile) call ok err left statistics statistics_left = absurd (call.named.1 refl)

-- an office that had failed before has failed after it
pub fails_still : {S : Type 0} (old new : OfficeView S) → (IsTrue old.failed → new ≡ old) → IsTrue old.failed
    → IsTrue new.failed
fails_still {S} old new refused failed = subst IsTrue (sym (ap (λ (o : OfficeView S). o.failed) (refused failed))) failed

still_on : {S : Type 0} (g : Ghosts S) (h : List Answered) (vs : List Visit) (old new : OfficeView S)
    → IsLeftAlone g old new → HasCleanDisk (state g new.conn) → HasServedAll h vs old.failed (state g old.conn)
    → IsTrue old.failed ⊎ IsFalse old.failed → HasServedAll h vs new.failed (state g new.conn)
still_on {S} g h vs old new alone clean ran (inl failed) =
    subst (λ (o : OfficeView S). HasServedAll h vs o.failed (state g o.conn)) (sym (alone.refused failed)) ran
still_on g h vs old new alone clean ran (inr sound) =
    let holding = ran.held (ran.is_open sound) in
    record {
      after = ran.after;
      follows = ran.follows;
      legal = ran.legal;
      in_range = ran.in_range;
      is_open = alone.opened clean ran.after holding;
      held = alone.held clean ran.after holding;
      left = λ db may. inl (alone.left clean ran.after holding db may);
    }

-- the connections so far were served still
pub served_still : {S : Type 0} (g : Ghosts S) (h : List Answered) (vs : List Visit) (old new : OfficeView S)
    → IsLeftAlone g old new → HasCleanDisk (state g new.conn) → HasServedAll h vs old.failed (state g old.conn)
    → HasServedAll h vs new.failed (state g new.conn)
served_still g h vs old new alone clean ran = still_on g h vs old new alone clean ran (decides old.failed)
