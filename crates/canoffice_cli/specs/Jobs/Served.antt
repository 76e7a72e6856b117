-- The outcome of serving.
use Rattle.std.specs.Prelude.{◌≡◌, ◌⊎◌, ◌≤◌, ◌++◌, ℕ, List, [], codes, length, Result, Ok, Err, IsErr, ⊤}
use Rattle.office_history.specs.History.{Answered}
use Rattle.canoffice_cli.specs.Answered.{lost_outcome}
use Rattle.canoffice_cli.specs.Databases.{Databases, HasBegun, StatisticsStay}
use Rattle.canoffice_cli.specs.Outcome.{Outcome, failure, success}
use Rattle.canoffice_cli.specs.declared.jobs.serving.ServeEnd.{ServeEnd}
use Rattle.canoffice_cli.specs.declared.jobs.serving.ServeEnd.TheVariants.{CannotAccept, CannotListen, IsLost}

-- nothing is printed, or why serving ended early or was not all well
abbrev pub end_outcome : Result ⊤ ServeEnd → Outcome
end_outcome (Ok done) = success []
end_outcome (Err CannotListen) = failure (codes "cannot listen\n")
end_outcome (Err CannotAccept) = failure (codes "cannot accept\n")
end_outcome (Err (IsLost lost)) = lost_outcome lost

-- Each connection adds at most one answer to the history that the database of the path holds, in whatever form; new
-- tables hold those answers alone, unless none were made. Where nothing can be listened on, nothing is added. Under the
-- first profile nothing is served, and the tables stay. The statistics stay.
pub record IsServed (before after : Databases) (path : List ℕ) (count : ℕ) (end : Result ⊤ ServeEnd) : Type 0 where
  pub goes_on : (h : List Answered) → before.holds path h → after.is_sound → (more : List Answered)
      × (length more ≤ count) × after.holds path (h ++ more)
  pub completed : (h : List Answered) → before.holds_in_form path h → after.is_sound
      → ((more : List Answered) × (length more ≤ count) × after.holds path (h ++ more)) ⊎ after.holds_in_form path h
  pub older : (h : List Answered) → before.holds_older path h → after.is_sound → IsErr end × after.holds_older path h
  pub made : before.is_new path → after.is_sound
      → ((more : List Answered) × (length more ≤ count) × after.holds path more) ⊎ after.is_new path
  pub statistics : HasBegun before path → StatisticsStay before after path
  pub unheard : end ≡ Err CannotListen → (h : List Answered) → before.holds path h → after.is_sound → after.holds path h
  pub unheard_left : end ≡ Err CannotListen → (h : List Answered) → before.holds_in_form path h → after.is_sound
      → after.holds_in_form path h

-- the office is served so, and how that ended is printed
abbrev pub IsServeOutcome : Databases → Databases → List ℕ → ℕ → Outcome → Type 0
IsServeOutcome before after path count o = (end : Result ⊤ ServeEnd) × IsServed before after path count end
    × (o ≡ end_outcome end)
