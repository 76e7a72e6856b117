-- What is printed of what came of asking a desk.
use Rattle.std.specs.Prelude.{ℕ, ◌++◌, List, Ok, Err, codes, decimal}
use Rattle.desk_send.specs.Desks.{Asked}
use Rattle.desk_client.specs.Received.{cut, not_http, too_long, whole}
use Rattle.desk_client.specs.declared.fault.AskFault.TheVariants.{Connect, Connection}
use Rattle.desk_client.specs.declared.received.DeskStatus.{DeskStatus}
use Rattle.desk_client.specs.declared.received.DeskStatus.TheVariants.{NotFound, Other, Success}
use Rattle.desk_types.specs.declared.fault.DeskFault.TheVariants.{Memory, Read, Write}
use Rattle.canoffice_cli.specs.Outcome.{Outcome, failure, memory_lost, not_found, success}

-- the line that no desk answers on the port
abbrev pub no_answer : ℕ → Outcome
no_answer port = failure (codes "no desk answers on port " ++ (decimal port ++ codes "\n"))

abbrev pub cut_response : Outcome
cut_response = failure (codes "the desk's response is cut\n")

-- of a whole response: its body, or that what was asked for isn't there, or another status
abbrev pub response_outcome : DeskStatus → List ℕ → Outcome
response_outcome Success body = success body
response_outcome NotFound body = not_found
response_outcome (Other status) body =
    failure (codes "the desk answers with status " ++ (decimal status ++ codes "\n"))

-- Where nothing is known of a response, or it is no such one, one line says what is wrong. Where a write failed, no
-- desk answers; where a read failed, the response is cut.
abbrev pub asked_outcome : ℕ → Asked → Outcome
asked_outcome port (Ok (whole status body)) = response_outcome status body
asked_outcome port (Ok cut) = cut_response
asked_outcome port (Ok not_http) = failure (codes "the desk's response is no HTTP\n")
asked_outcome port (Ok too_long) = failure (codes "the desk's response is too long\n")
asked_outcome port (Err Connect) = no_answer port
asked_outcome port (Err (Connection Write)) = no_answer port
asked_outcome port (Err (Connection Read)) = cut_response
asked_outcome port (Err (Connection Memory)) = memory_lost
