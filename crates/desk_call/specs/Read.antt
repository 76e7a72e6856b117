-- Which call the bytes of a source are.
use Rattle.std.specs.Prelude.{◌≡◌, ◌<◌, ◌⊎◌, ℕ, List, length, Option, Some, None, IfSome, Result, Ok, Err, ⊤}
use Rattle.std.specs.Io.KnownBytes.{Consumes}
use Rattle.httparse.specs.Grammar.{RequestHead}
use Rattle.office_fields.specs.declared.unread.Unread.{Unread}
use Rattle.office_fields.specs.declared.unread.Unread.TheVariants.{Wrong, Memory}
use Rattle.office_history.specs.declared.arrival.Arrival.{Arrival}
use Rattle.desk_types.specs.declared.problem.Problem.TheVariants.{BadRequest}
use Rattle.desk_head.specs.Demand.{demand_of, body_size}
use Rattle.desk_head.specs.Head.{HasHead, HasNoHead, IsUnfinished}
use Rattle.desk_call.specs.Call.{Requested, ArrivalSeen, arrival_seen, call_of, fails}

-- What the bytes request: what the request does that they begin with. Bytes without a head within the limits are a bad
-- request.
abbrev pub IsRequest : List ℕ → Requested → Type 0
IsRequest bytes requested =
    (HasNoHead bytes × (requested ≡ fails BadRequest))
    ⊎ ((h : RequestHead) × (rest : List ℕ) × HasHead bytes h rest × (requested ≡ call_of h rest))

-- this is the first request of a source, if it shows its bytes
abbrev pub IsRequested : Option (List ℕ) → Requested → Type 0
IsRequested left requested = IfSome left (λ input. IsRequest input requested)

-- a law: no bytes hold two requests
abbrev pub BytesRequestOneThing : Type 0
BytesRequestOneThing = (bytes : List ℕ) (a b : Requested) → IsRequest bytes a → IsRequest bytes b → a ≡ b

-- the bytes hold no whole request: less than a head, or a head with a body that isn't all there
abbrev pub IsNotWhole : List ℕ → Type 0
IsNotWhole bytes =
    IsUnfinished bytes ⊎ ((h : RequestHead) × (rest : List ℕ) × HasHead bytes h rest
    × (length rest < body_size (demand_of h)))

-- the bytes that a source gave hold no whole request
abbrev pub StopsShort : Option (List ℕ) → Option (List ℕ) → Type 0
StopsShort left_old left_new = (bytes : List ℕ) × Consumes left_old left_new bytes × IsNotWhole bytes

-- an arrival is the one that the definition finds; out of memory states nothing
abbrev pub ReadsArrival : Option ArrivalSeen → Result Arrival Unread → Type 0
ReadsArrival found (Ok a) = found ≡ Some (arrival_seen a)
ReadsArrival found (Err Wrong) = found ≡ None
ReadsArrival found (Err Memory) = ⊤
