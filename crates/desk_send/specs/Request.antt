-- The request that is sent (RFC 9112, sections 3, 5 and 6): a request line, headers, an empty line and a body.
use Rattle.std.specs.Prelude.{◌≡◌, ℕ, nat_le, List, [], ◌∷◌, ◌++◌, length, codes, decimal, Option, Some}
use Rattle.std.specs.Prelude.{None, slice_get, take}
use Rattle.std.specs.List.{AllZip}
use Rattle.httparse.specs.Grammar.{Field, RequestHead, crlf}
use Rattle.office_fields.specs.Value.{◌>>=◌, where_true}
use Rattle.office_history.specs.declared.arrival.Arrival.{Arrival}
use Rattle.office_types.specs.declared.command.Command.{Command}
use Rattle.desk_head.specs.Limits.{body_limit}
use Rattle.desk_call.specs.Call.{ArrivalSeen, arrives, content_of}
use Rattle.desk_call.specs.Read.{IsRequest}
use Rattle.desk_send.specs.Body.{body_of}
use Rattle.desk_send.specs.Target.{target_of}

-- the bytes of a POST at a target, of a team under a key
unfoldable pub request_bytes : List ℕ → List ℕ → List ℕ → List ℕ → List ℕ
request_bytes target team key body =
    codes "POST " ++ target ++ codes " HTTP/1.1\r\nHost: 127.0.0.1\r\nTeam: " ++ team ++ codes "\r\nRequest-Key: "
    ++ key ++ codes "\r\nContent-Length: " ++ decimal (length body) ++ codes "\r\nConnection: close\r\n\r\n" ++ body

-- its head, in the grammar by which a desk reads it: each header has a space before its value
abbrev pub header : List ℕ → List ℕ → Field
header name raw = record { name = name; raw = raw; end = crlf }

abbrev pub post_fields : List ℕ → List ℕ → ℕ → List Field
post_fields team key size =
    header (codes "Host") (codes " 127.0.0.1") ∷ header (codes "Team") (32 ∷ team)
    ∷ header (codes "Request-Key") (32 ∷ key) ∷ header (codes "Content-Length") (32 ∷ decimal size)
    ∷ header (codes "Connection") (codes " close") ∷ []

abbrev pub post_head : List ℕ → List ℕ → List ℕ → ℕ → RequestHead
post_head target team key size = record {
  blank = [];
  method = codes "POST";
  target = target;
  minor = 1;
  line_end = crlf;
  fields = post_fields team key size;
  last = crlf;
}

-- the arrival as a desk sees it that reads this body: the content is the target and the body
abbrev pub seen_with : Arrival → List ℕ → ArrivalSeen
seen_with a body = record {
  team = a.team;
  key = a.key;
  content = content_of (target_of a.request.command) body;
  command = a.request.command;
}

-- the body, where it has one and a desk takes it: it isn't longer than the limit
abbrev pub sent_body : Command → Option (List ℕ)
sent_body c = body_of c >>= λ body. where_true (nat_le (length body) body_limit) (Some body)

-- the bytes are the request of the arrival, and a desk that reads them sees this arrival
pub record IsSentAs (a : Arrival) (bytes : List ℕ) : Type 0 where
  pub body : List ℕ
  pub is : sent_body a.request.command ≡ Some body
  pub text : bytes ≡ request_bytes (target_of a.request.command) a.team a.key body
  pub read : IsRequest bytes (arrives (seen_with a body))

-- no request is sent of the arrival
abbrev pub IsUnsent : Arrival → Type 0
IsUnsent a = sent_body a.request.command ≡ None

-- each arrival before this index, from 0, has its request, and none is sent of the one at it
pub record IsFirstUnsent (arrivals : List Arrival) (index : ℕ) : Type 0 where
  pub requests : List (List ℕ)
  pub sent : AllZip IsSentAs (take index arrivals) requests
  pub arrival : Arrival
  pub there : slice_get arrivals index ≡ Some arrival
  pub unsent : IsUnsent arrival
