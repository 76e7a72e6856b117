-- Worked examples of what looks print, computed from the definitions.
use Rattle.canoffice_cli.proofs.Common.{◌≡◌, [], ◌∷◌, Ok, Err, None, codes, map, refl}
use Rattle.std.specs.Fmt.{digits}
use Rattle.desk_client.specs.Received.{cut, not_http, too_long, whole}
use Rattle.desk_client.specs.declared.fault.AskFault.TheVariants.{Connect, Connection}
use Rattle.desk_client.specs.declared.received.DeskStatus.TheVariants.{NotFound, Other, Success}
use Rattle.desk_types.specs.declared.fault.DeskFault.TheVariants.{Memory, Read, Write}
use Rattle.canoffice_cli.specs.Desks.{asked_outcome}
use Rattle.canoffice_cli.specs.Jobs.Looked.{shown_outcome}
use Rattle.canoffice_cli.specs.Outcome.{failure, memory_lost, not_found, success}

-- the body as it is, whatever bytes it has
found : asked_outcome 8089 (Ok (whole Success (codes "truck\n"))) ∷ asked_outcome 8089 (Ok (whole Success [])) ∷ []
    ≡ success (codes "truck\n") ∷ success [] ∷ []
found = refl

not_there : asked_outcome 8089 (Ok (whole NotFound (codes "NotFound"))) ∷ shown_outcome (Ok None) ∷ []
    ≡ not_found ∷ not_found ∷ []
not_there = refl

no_response : map (asked_outcome 8089) (Err Connect ∷ Err (Connection Write) ∷ Err (Connection Read) ∷ Ok cut
    ∷ Ok not_http ∷ Ok too_long ∷ Ok (whole (Other 503) []) ∷ Err (Connection Memory) ∷ [])
    ≡ failure (codes "no desk answers on port 8089\n") ∷ failure (codes "no desk answers on port 8089\n")
    ∷ failure (codes "the desk's response is cut\n") ∷ failure (codes "the desk's response is cut\n")
    ∷ failure (codes "the desk's response is no HTTP\n") ∷ failure (codes "the desk's response is too long\n")
    ∷ failure (codes "the desk answers with status 503\n") ∷ memory_lost ∷ []
unfolding digits
no_response = refl
