-- The outcome of a script that is sent to a desk.
use Rattle.std.specs.Prelude.{◌≡◌, ◌⊎◌, ◌==◌, ◌+◌, ◌-◌, ℕ, List, [], ◌∷◌, ◌++◌, length, map, take, if◌then◌else◌}
use Rattle.std.specs.Prelude.{Option, Some, None, Result, Ok, Err}
use Rattle.std.specs.List.{AllZip}
use Rattle.std.specs.Option.{option_map}
use Rattle.desk_send.specs.Desks.{Desks, Takes, TakesNone, Turn}
use Rattle.desk_send.specs.Replies.{Comes}
use Rattle.desk_send.specs.declared.sending.SendFault.{SendFault}
use Rattle.desk_send.specs.declared.sending.SendFault.TheVariants as fault
use Rattle.desk_send.specs.Request.{IsFirstUnsent, IsSentAs}
use Rattle.office_history.specs.declared.arrival.Answer.{Answer}
use Rattle.office_history.specs.declared.arrival.Arrival.{Arrival}
use Rattle.office_script.specs.Files.{Files}
use Rattle.office_script.specs.Lines.{lines_of, says_nothing}
use Rattle.office_script.specs.Script.{AreArrivalsOf}
use Rattle.office_script.specs.declared.keys.Dash.TheVariants.{Wrong}
use Rattle.store.specs.declared.lost.Lost.{Lost}
use Rattle.store.specs.declared.lost.Lost.TheVariants.{Memory, Store}
use Rattle.canoffice_cli.specs.Answered.{IsFarEnough, answers_outcome}
use Rattle.canoffice_cli.specs.Jobs.Applied.{IsAmiss}
use Rattle.canoffice_cli.specs.Outcome.{Outcome, wrong_line}
use Rattle.canoffice_jobs.specs.declared.manner.Sending.{Sending}

-- ---- what comes of requests

-- why an arrival is lost whose request has no answer
abbrev pub lost_by : SendFault → Lost
lost_by fault.NoReply = Store
lost_by fault.Memory = Memory

-- what came of the first requests: their answers, and of the next one why it has none, if that was the end
abbrev pub results_of : List Answer → Option SendFault → List (Result Answer SendFault)
results_of answers None = map Ok answers
results_of answers (Some fault) = map Ok answers ++ Err fault ∷ []

-- Each of the requests came to its result, in the tries, at the port, and just these turns were taken: first those of
-- the first request, then those of the next one, and so on.
abbrev pub ComeInTurn : Desks → Sending → List (List ℕ) → List (Result Answer SendFault) → List Turn → Type 0
ComeInTurn desks sending [] [] turns = turns ≡ []
ComeInTurn desks sending [] (r ∷ rs) turns = ⊥
ComeInTurn desks sending (request ∷ requests) [] turns = ⊥
ComeInTurn desks sending (request ∷ requests) (r ∷ rs) turns =
    (own : List Turn) × (later : List Turn) × (turns ≡ own ++ later)
    × Comes desks sending.port request sending.tries own r × ComeInTurn desks sending requests rs later

-- each of the first requests came to its answer, and the next one to that for which it is lost, if one was; none of
-- those after it was sent
abbrev pub HaveCome : Desks → Sending → List (List ℕ) → List Answer → Option Lost → List Turn → Type 0
HaveCome desks sending requests answers lost turns = (fault : Option SendFault) × (lost ≡ option_map lost_by fault)
    × ComeInTurn desks sending (take (length (results_of answers fault)) requests) (results_of answers fault) turns

-- so it was: these turns were taken, and no other one
abbrev pub AreTaken : Desks → Desks → Sending → List (List ℕ) → List Answer → Option Lost → Type 0
AreTaken before after sending requests answers lost =
    (turns : List Turn) × Takes before after turns × HaveCome before sending requests answers lost turns

-- The arrivals were sent in turn, as far as is due, each as its request, and what came of them is printed. Nothing else
-- was sent.
pub record AreSent (before after : Desks) (sending : Sending) (arrivals : List Arrival) (o : Outcome) : Type 0 where
  pub requests : List (List ℕ)
  pub sent : AllZip IsSentAs arrivals requests
  pub answers : List Answer
  pub lost : Option Lost
  pub far : IsFarEnough sending.manner.strict arrivals answers lost
  pub came : AreTaken before after sending requests answers lost
  pub outcome : o ≡ answers_outcome sending.manner arrivals answers lost

-- ---- what can't be sent

-- the number of the line that requests the arrival of this index, from 0, where the first line has this number
abbrev pub requesting_line : ℕ → ℕ → List (List ℕ) → Option ℕ
requesting_line number index [] = None
requesting_line number index (line ∷ lines) =
    if says_nothing line then requesting_line (number + 1) index lines
    else (if index == 0 then Some number else requesting_line (number + 1) (index - 1) lines)

-- no request is sent of one of the arrivals: the number of its line is printed, and nothing was sent
pub record IsUnsendable (before after : Desks) (script : List ℕ) (arrivals : List Arrival) (o : Outcome) : Type 0 where
  pub none : TakesNone before after
  pub index : ℕ
  pub first : IsFirstUnsent arrivals index
  pub number : ℕ
  pub requested : requesting_line 1 index (lines_of script) ≡ Some number
  pub outcome : o ≡ wrong_line number

-- ---- the whole script

-- The arrivals of the script were sent, or of one of them no request is sent. Or something is amiss at a line of it.
-- The key `-` is wrong. Then nothing was sent.
abbrev pub IsSendOutcome : Files → Desks → Desks → Sending → List ℕ → Outcome → Type 0
IsSendOutcome files before after sending script o =
    ((arrivals : List Arrival) × AreArrivalsOf files Wrong (lines_of script) arrivals
    × (AreSent before after sending arrivals o ⊎ IsUnsendable before after script arrivals o))
    ⊎ (IsAmiss files Wrong script o × TakesNone before after)
