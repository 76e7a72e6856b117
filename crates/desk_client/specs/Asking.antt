-- What becomes of the sink and the source through which something is requested of a desk.
use Rattle.std.specs.Prelude.{◌≡◌, ◌⊎◌, ℕ, ◌+◌, ◌<◌, List, length, Option, IfSome, Result, Ok, Err}
use Rattle.std.specs.Io.KnownBytes.{Appends, Consumes, IsAtEnd}
use Rattle.desk_types.specs.Moved.{AppendsFront}
use Rattle.desk_types.specs.declared.fault.DeskFault.{DeskFault}
use Rattle.desk_types.specs.declared.fault.DeskFault.TheVariants.{Read, Write, Memory}
use Rattle.desk_client.specs.Received.{Reception, IsReceived}
use Rattle.desk_client.specs.Limits.{response_limit}

-- where the sink failed, a beginning of the request was written, and else all of it
abbrev pub Asks : {T : Type 0} → Result T DeskFault → Option (List ℕ) → Option (List ℕ) → List ℕ → Type 0
Asks (Ok v) old new request = Appends old new request
Asks (Err Read) old new request = Appends old new request
Asks (Err Write) old new request = AppendsFront old new request
Asks (Err Memory) old new request = Appends old new request

-- one read failed where the fault says so, and else none
abbrev pub CountsReads : {T : Type 0} → Result T DeskFault → ℕ → ℕ → Type 0
CountsReads (Ok v) old new = new ≡ old
CountsReads (Err Read) old new = new ≡ old + 1
CountsReads (Err Write) old new = new ≡ old
CountsReads (Err Memory) old new = new ≡ old

-- one write failed where the fault says so, and else none
abbrev pub CountsWrites : {T : Type 0} → Result T DeskFault → ℕ → ℕ → Type 0
CountsWrites (Ok v) old new = new ≡ old
CountsWrites (Err Read) old new = new ≡ old
CountsWrites (Err Write) old new = new ≡ old + 1
CountsWrites (Err Memory) old new = new ≡ old

-- the bytes that a source has, all of them, are received so, if it states them
abbrev pub Receives : Option (List ℕ) → Reception → Type 0
Receives left r = IfSome left (λ bytes. IsReceived bytes r)

-- the source gave these bytes, and then its end or more than are received
abbrev pub GivesAll : Option (List ℕ) → Option (List ℕ) → List ℕ → Type 0
GivesAll old new bytes = Consumes old new bytes × ((response_limit < length bytes) ⊎ IsAtEnd new)
