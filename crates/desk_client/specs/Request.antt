-- The request that is sent (RFC 9112, section 3): a request line, headers and an empty line.
use Rattle.std.specs.Prelude.{ℕ, ◌==◌, nat_le, Bool, ◌&&◌, not, List, [], ◌∷◌, ◌++◌, length, codes}
use Rattle.std.specs.Char.{is_ascii_graphic}
use Rattle.std.specs.List.{list_all}
use Rattle.httparse.specs.Grammar.{Field, RequestHead, crlf}
use Rattle.office_types.specs.declared.look.LookForm.{LookForm}
use Rattle.office_types.specs.declared.look.LookForm.TheVariants.{Json, Lines}
use Rattle.desk_client.specs.Limits.{target_limit}

-- visible ASCII, not empty, within the limit
abbrev pub is_target : List ℕ → Bool
is_target bytes = not (length bytes == 0) && nat_le (length bytes) target_limit && list_all is_ascii_graphic bytes

-- what follows the target: the request line's end, the headers and the empty line; JSON is wanted by `Accept`
abbrev pub head_end : LookForm → List ℕ
head_end Lines = codes " HTTP/1.1\r\nHost: 127.0.0.1\r\nConnection: close\r\n\r\n"
head_end Json = codes " HTTP/1.1\r\nHost: 127.0.0.1\r\nAccept: application/json\r\nConnection: close\r\n\r\n"

-- the bytes of a GET of a target, in a form
unfoldable pub request_bytes : List ℕ → LookForm → List ℕ
request_bytes target form = codes "GET " ++ target ++ head_end form

-- a header, with a space before its value
abbrev pub header : List ℕ → List ℕ → Field
header name raw = record { name = name; raw = raw; end = crlf }

abbrev pub accept_fields : LookForm → List Field
accept_fields Lines = []
accept_fields Json = header (codes "Accept") (codes " application/json") ∷ []

-- the head of such a GET, in the grammar by which a desk reads it
abbrev pub get_head : List ℕ → LookForm → RequestHead
get_head target form = record {
  blank = [];
  method = codes "GET";
  target = target;
  minor = 1;
  line_end = crlf;
  fields = header (codes "Host") (codes " 127.0.0.1")
      ∷ (accept_fields form ++ header (codes "Connection") (codes " close") ∷ []);
  last = crlf;
}
