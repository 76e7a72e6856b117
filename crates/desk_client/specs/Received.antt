-- What bytes are received as: the response that they begin with (RFC 9112, sections 4 and 6), in the grammar of
-- `httparse`, by which one head at most, and then one rest, are so.
use Rattle.std.specs.Prelude.{◌≡◌, ◌<◌, ◌≤◌, ◌⊎◌, ℕ, nat_le, List, [], ◌∷◌, ◌++◌, map, length, take, codes}
use Rattle.std.specs.Prelude.{Option, Some, None, if◌then◌else◌, ◌==◌}
use Rattle.httparse.specs.Grammar.{ResponseHead, HasNoResponse, MayBecomeResponse, ReadsResponse, status_code}
use Rattle.httparse.specs.Spans.{name_and_value}
use Rattle.base.specs.WholeNumber.{whole_of}
use Rattle.desk_head.specs.Fields.{Headers, named}
use Rattle.desk_head.specs.Limits.{header_limit}
use Rattle.desk_client.specs.Limits.{response_limit}
use Rattle.desk_client.specs.declared.received.Received.{Received}
use Rattle.desk_client.specs.declared.received.Received.TheVariants as is
use Rattle.desk_client.specs.declared.received.DeskStatus.{DeskStatus}
use Rattle.desk_client.specs.declared.received.DeskStatus.TheVariants.{Success, NotFound, Other}

-- what is received, with the bytes of its body
pub data Reception : Type 0 where
  whole : DeskStatus → List ℕ → Reception
  cut not_http too_long : Reception

abbrev pub seen : Received → Reception
seen (is.Whole response) = whole response.status response.body.items
seen is.Cut = cut
seen is.NotHttp = not_http
seen is.TooLong = too_long

abbrev pub status_of : ℕ → DeskStatus
status_of n = if n == 200 then Success else (if n == 404 then NotFound else Other n)

-- its number
abbrev pub code_of : DeskStatus → ℕ
code_of Success = 200
code_of NotFound = 404
code_of (Other n) = n

-- ---- the length of the body

-- one value, which is a whole number of 32 bits
abbrev pub length_by : List (List ℕ) → Option ℕ
length_by [] = None
length_by (v ∷ []) = whole_of v
length_by (v ∷ w ∷ values) = None

-- no transfer coding is known, so none is allowed
abbrev pub unless_coded : List (List ℕ) → Option ℕ → Option ℕ
unless_coded [] found = found
unless_coded (v ∷ values) found = None

-- how long the body is by the headers, if they say so by one `Content-Length`
unfoldable pub body_length : Headers → Option ℕ
body_length headers =
    unless_coded (named (codes "transfer-encoding") headers) (length_by (named (codes "content-length") headers))

-- ---- what is received

-- with a body of this length, of which the rest must have all; what follows it isn't looked at
abbrev pub received_by : Option ℕ → ℕ → List ℕ → Reception
received_by None code rest = not_http
received_by (Some size) code rest =
    if nat_le size (length rest) then whole (status_of code) (take size rest) else cut

-- a head of a response, and then the rest
abbrev pub received_of : ResponseHead → List ℕ → Reception
received_of h rest = received_by (body_length (map name_and_value h.fields)) (status_code h) rest

-- the bytes begin with this head, with no more fields than are read, and go on with the rest
abbrev pub HasResponse : List ℕ → ResponseHead → List ℕ → Type 0
HasResponse bytes h rest = ReadsResponse bytes h rest × (length h.fields ≤ header_limit)

-- whatever follows, the bytes begin with no such head
abbrev pub NeverHasHead : List ℕ → Type 0
NeverHasHead bytes = (more : List ℕ) (h : ResponseHead) (rest : List ℕ) → ¬ (HasResponse (bytes ++ more) h rest)

-- the bytes are less than a head, and more may follow that make them one
abbrev pub IsCutHead : List ℕ → Type 0
IsCutHead bytes = HasNoResponse bytes × MayBecomeResponse bytes

-- What the bytes are received as: more than are read, a head and what follows it, less than a head, or no HTTP.
abbrev pub IsReceived : List ℕ → Reception → Type 0
IsReceived bytes r =
    ((response_limit < length bytes) × (r ≡ too_long))
    ⊎ ((length bytes ≤ response_limit)
    × (((h : ResponseHead) × (rest : List ℕ) × HasResponse bytes h rest × (r ≡ received_of h rest))
    ⊎ ((r ≡ cut) × IsCutHead bytes) ⊎ ((r ≡ not_http) × NeverHasHead bytes)))
