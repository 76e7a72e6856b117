-- What a look at an office prints.
use Rattle.std.specs.Prelude.{◌≡◌, ℕ, Bool, List, [], ◌∷◌, Option, Some, None, Result, Ok, Err, IfOk, IsErr, OnOk}
use Rattle.desk_send.specs.Desks.{Asked, Desks, Takes, TakesNone, turn}
use Rattle.canoffice_jobs.specs.Words.{requests_look, show_look}
use Rattle.canoffice_jobs.specs.declared.what.What.{What}
use Rattle.desk_client.specs.Request.{request_bytes}
use Rattle.desk_head.specs.Asked.{target_of}
use Rattle.office_types.specs.declared.state.Office.{Office}
use Rattle.office_history.specs.History.{Answered, IsLegal}
use Rattle.store.specs.declared.lost.Lost.{Lost}
use Rattle.office_types.specs.Look.{look_form}
use Rattle.office_types.specs.declared.look.Look.{Look}
use Rattle.store.specs.Looking.{IsShown}
use Rattle.canoffice_cli.specs.Answered.{lost_outcome}
use Rattle.canoffice_cli.specs.Databases.{AreKept, Databases, HasBegun, HoldsInSomeForm, StatisticsStay}
use Rattle.canoffice_cli.specs.Desks.{asked_outcome}
use Rattle.canoffice_cli.specs.Outcome.{Outcome, not_found, success}
use Rattle.canoffice_jobs.specs.declared.place.OfficePlace.{OfficePlace}
use Rattle.canoffice_jobs.specs.declared.place.OfficePlace.TheVariants.{Database, Desk}

-- the text is printed, or that nothing was found, or why the call was lost
abbrev pub shown_outcome : Result (Option (List ℕ)) Lost → Outcome
shown_outcome (Ok (Some text)) = success text
shown_outcome (Ok None) = not_found
shown_outcome (Err lost) = lost_outcome lost

-- The office in the database of the path looked the look up, and this is what it showed, unless that was lost. The
-- tables hold what they held, and the statistics stay. Those of an earlier version are of this one where the look
-- succeeded. Under the first profile the look is lost, and they stay. Where the file has no tables, nothing is shown,
-- and nothing is made.
pub record IsLookedUp (before after : Databases) (path : List ℕ) (look : Look)
    (shown : Result (Option (List ℕ)) Lost) : Type 0 where
  pub of_held : (h : List Answered) (office : Office) → HoldsInSomeForm before path h → IsLegal h office
      → after.is_sound → IfOk shown (IsShown h office look)
  pub held : (h : List Answered) → before.holds path h → after.is_sound → after.holds path h
  pub completed : (h : List Answered) → before.holds_in_form path h → after.is_sound → OnOk shown (after.holds path h)
  pub left : (h : List Answered) → before.holds_in_form path h → after.is_sound → after.holds_in_form path h
  pub older : (h : List Answered) → before.holds_older path h → after.is_sound
      → IsErr shown × after.holds_older path h
  pub statistics : HasBegun before path → StatisticsStay before after path
  pub of_none : before.is_new path → (shown ≡ Ok None) × AreKept before after

-- The desk on the port was asked for the target of the look in its form, once, and what came of it is printed. Nothing
-- else was sent.
abbrev pub IsAskedFor : Desks → Desks → ℕ → Look → Outcome → Type 0
IsAskedFor earlier later port look o =
    (asked : Asked) × earlier.asked port (target_of look) (look_form look) asked
    × Takes earlier later (turn port (request_bytes (target_of look) (look_form look)) asked ∷ [])
    × (o ≡ asked_outcome port asked)

-- what the office at the place shows for the look is printed; a database is read without asking any desk
abbrev pub IsLookedAt : Desks → Desks → Databases → Databases → OfficePlace → Look → Outcome → Type 0
IsLookedAt earlier later before after (Database path) look o =
    (shown : Result (Option (List ℕ)) Lost) × IsLookedUp before after path.now look shown × TakesNone earlier later
    × (o ≡ shown_outcome shown)
IsLookedAt earlier later before after (Desk port) look o = IsAskedFor earlier later port look o × AreKept before after

-- the same of words: where one hasn't the form of what it names, there is nothing, and nothing is done
abbrev pub IsLookOutcome : Desks → Desks → Databases → Databases → OfficePlace → Option Look → Outcome → Type 0
IsLookOutcome earlier later before after place None o =
    (o ≡ not_found) × AreKept before after × TakesNone earlier later
IsLookOutcome earlier later before after place (Some look) o = IsLookedAt earlier later before after place look o

abbrev pub IsShowOutcome : Desks → Desks → Databases → Databases → OfficePlace → Option (List ℕ) → What → Option (List ℕ)
    → Bool → Outcome → Type 0
IsShowOutcome earlier later before after place net what name json o =
    IsLookOutcome earlier later before after place (show_look net what name json) o

abbrev pub IsRequestsOutcome : Desks → Desks → Databases → Databases → OfficePlace → List ℕ → Bool → Outcome → Type 0
IsRequestsOutcome earlier later before after place team json o =
    IsLookOutcome earlier later before after place (requests_look team json) o
