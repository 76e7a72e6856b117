-- Each command is decided by its tests.
use Rattle.office_law.proofs.Common.{ℕ, List, Option, Some, None, refl, sym, false≢true, first_refusal, SpnBook, Task}
use Rattle.office_law.proofs.Common.{Act, Import, Bundle, Net, PartsOutcome, RefusedAt, AllDone, bundle_outcome}
use Rattle.office_law.proofs.Common.{done_task, parts_done, FileReading, Reading, Unreadable, file_imported, file_tests}
use Rattle.office_law.specs.Deciding.{IsDecidedBy, TestsDecide, bundle_tests, task_tests}
use Rattle.office_law.proofs.OutcomeFound.{IsAnswered, decided_net}
use Rattle.office_law.proofs.EachAction.{laws_of}
use Rattle.office_law.proofs.NoTestHolds.{NoneHolds}

module _ (team name : List ℕ) (book : SpnBook) where
  answered_file : (reading : FileReading) (n : Net) → NoneHolds (file_tests team n reading)
      → IsAnswered (file_imported team n reading)
  answered_file (Reading s) n none = tt
  answered_file (Unreadable f) n none = absurd (false≢true (sym none.0))

  decided_bundle : (out : PartsOutcome) → IsDecidedBy (first_refusal (bundle_tests out)) (bundle_outcome out)
  decided_bundle (RefusedAt number r) = refl
  decided_bundle (AllDone replies (Some net) e) = refl
  decided_bundle (AllDone replies None e) = refl

  decided_task : (reading : FileReading) (net : Option Net) (t : Task)
      → IsDecidedBy (first_refusal (task_tests team name reading net book t)) (done_task team name reading net book t)
  decided_task reading net (Act a) = (laws_of team name a).decided book net
  decided_task reading net (Import file) = decided_net _ _ net (λ n none. answered_file reading n none.1)
  decided_task reading net (Bundle parts) = decided_bundle (parts_done team name 1 net book parts)

pub tests_decide : TestsDecide
tests_decide team reading net book c = decided_task team c.net book reading net c.task
