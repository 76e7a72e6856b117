-- The answers to arrivals, as far as they are answered.
use Rattle.std.specs.Prelude.{◌≡◌, ◌⊎◌, ℕ, ◌≤◌, Bool, true, false, ◌&&◌, List, [], ◌∷◌, ◌++◌, length, map, codes}
use Rattle.std.specs.Prelude.{Option, Some, None, Ok, IsSome, IsTrue, if◌then◌else◌}
use Rattle.std.specs.List.{flat_map, list_any}
use Rattle.office_script.specs.Echoes.{answer_line, echoes, is_refused}
use Rattle.office_history.specs.declared.arrival.Answer.{Answer}
use Rattle.office_history.specs.declared.arrival.Arrival.{Arrival}
use Rattle.office_history.specs.History.{Answered, IsLegalHistory}
use Rattle.store.specs.declared.lost.Lost.{Lost}
use Rattle.store.specs.Lost.{lost_text}
use Rattle.store.specs.Running.{answered_of}
use Rattle.canoffice_cli.specs.Databases.{Databases, HasBegun, StatisticsStay}
use Rattle.canoffice_cli.specs.Outcome.{Outcome, failure}
use Rattle.canoffice_jobs.specs.declared.manner.Manner.{Manner}
use Rattle.canoffice_cli.specs.declared.report.ExitStatus.{ExitStatus}
use Rattle.canoffice_cli.specs.declared.report.ExitStatus.TheVariants.{Failed, FaultFound, Success}

-- each answer on a line of its own
abbrev pub answer_lines : List Answer → List ℕ
answer_lines answers = flat_map answer_line answers

abbrev pub lost_line : Lost → List ℕ
lost_line lost = lost_text lost ++ codes "\n"

-- why a call was lost is printed, and nothing else
abbrev pub lost_outcome : Lost → Outcome
lost_outcome lost = failure (lost_line lost)

-- what is printed of answers to the first arrivals, or of their echoes
abbrev pub printed : Bool → List Arrival → List Answer → List ℕ
printed echo arrivals answers = if echo then echoes arrivals answers else answer_lines answers

-- the status where nothing was lost: a refusal is a fault where the script stops at it
abbrev pub status_of : Bool → List Answer → ExitStatus
status_of strict answers = if strict && list_any is_refused answers then FaultFound else Success

-- the answers are printed, and then why the next one was lost, if it was
abbrev pub answers_outcome : Manner → List Arrival → List Answer → Option Lost → Outcome
answers_outcome manner arrivals answers None =
    record { output = printed manner.echo arrivals answers; errors = []; status = status_of manner.strict answers }
answers_outcome manner arrivals answers (Some lost) =
    record { output = printed manner.echo arrivals answers; errors = lost_line lost; status = Failed }

-- the first arrivals, as many as there are answers, with these
abbrev pub answered_with : List Arrival → List Answer → List Answered
answered_with arrivals answers = answered_of arrivals (map Ok answers)

-- nothing was refused
abbrev pub NoneRefused : List Answer → Type 0
NoneRefused answers = list_any is_refused answers ≡ false

-- the last one was refused, and it alone
abbrev pub EndsRefused : List Answer → Type 0
EndsRefused answers = (before : List Answer) × (last : Answer)
    × (answers ≡ before ++ last ∷ []) × NoneRefused before × (is_refused last ≡ true)

-- How far arrivals are answered: all of them, or up to one that is lost, or, where the script stops at a refusal, up to
-- the first that is refused.
pub record IsFarEnough (strict : Bool) (arrivals : List Arrival) (answers : List Answer) (lost : Option Lost) : Type 0
  where
    pub some : length answers ≤ length arrivals
    pub all : lost ≡ None → (length answers ≡ length arrivals) ⊎ (IsTrue strict × EndsRefused answers)
    pub stops : IsTrue strict → NoneRefused answers ⊎ EndsRefused answers

-- The arrivals were answered in turn, as far as is due, and the answers are printed, and then why the next one was
-- lost. What was answered goes on with the history as `GoesOn` says.
pub record AreAnswered (manner : Manner) (GoesOn : List Answered → Option Lost → Type 0) (arrivals : List Arrival)
    (o : Outcome) (answers : List Answer) : Type 0 where
  pub lost : Option Lost
  pub far : IsFarEnough manner.strict arrivals answers lost
  pub outcome : o ≡ answers_outcome manner arrivals answers lost
  pub goes_on : GoesOn (answered_with arrivals answers) lost

-- in memory: what was answered is a legal history
abbrev pub InMemory : List Answered → Option Lost → Type 0
InMemory reported lost = IsLegalHistory reported

-- nothing was answered: opening the database was lost, or already the first arrival
abbrev pub NoneAnswered : {A : Type 0} → List A → Option Lost → Type 0
NoneAnswered answers lost = IsSome lost × (answers ≡ [])

-- In the database of the path: the tables hold the history that they held, in whatever form, followed by what was
-- answered. New tables hold what was answered. Or nothing was answered, as under the first profile, and they are as
-- before. The statistics stay.
pub record InDatabase (before after : Databases) (path : List ℕ) (reported : List Answered) (lost : Option Lost) : Type
    0 where
  pub held : (h : List Answered) → before.holds path h → after.is_sound → after.holds path (h ++ reported)
  pub completed : (h : List Answered) → before.holds_in_form path h → after.is_sound
      → after.holds path (h ++ reported) ⊎ (NoneAnswered reported lost × after.holds_in_form path h)
  pub older : (h : List Answered) → before.holds_older path h → after.is_sound
      → NoneAnswered reported lost × after.holds_older path h
  pub made : before.is_new path → after.is_sound
      → after.holds path reported ⊎ (NoneAnswered reported lost × after.is_new path)
  pub statistics : HasBegun before path → StatisticsStay before after path
