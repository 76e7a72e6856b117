-- The text of a response (RFC 9112, section 4): a status line, header lines, an empty line and a body.
use Rattle.std.specs.Prelude.{ℕ, List, [], ◌∷◌, ◌++◌, length, codes, decimal, unwrap_or}
use Rattle.http.specs.StatusCode.{reason_phrase}
use Rattle.serde_json.specs.Data.{Data}
use Rattle.serde_json.specs.Written.{compact_text}
use Rattle.office_history.specs.declared.arrival.Answer.{Answer}
use Rattle.desk_types.specs.Problem.{problem_status}
use Rattle.desk_types.specs.declared.problem.Problem.{Problem}
use Rattle.desk_reply.specs.Reply.{answer_data, answer_status, problem_data}
use Rattle.desk_reply.specs.declared.responses.BodyKind.{BodyKind}
use Rattle.desk_reply.specs.declared.responses.BodyKind.TheVariants.{Json, Plain, Bytes, Html}

abbrev pub content_type : BodyKind → List ℕ
content_type Json = codes "application/json"
content_type Plain = codes "text/plain"
content_type Bytes = codes "application/octet-stream"
content_type Html = codes "text/html; charset=us-ascii"

abbrev pub phrase_of : ℕ → List ℕ
phrase_of status = unwrap_or (reason_phrase status) []

-- a line ends with CR LF
abbrev pub line_end : List ℕ
line_end = 13 ∷ 10 ∷ []

unfoldable pub status_line : ℕ → List ℕ → List ℕ
status_line status phrase = codes "HTTP/1.1 " ++ (decimal status ++ (codes " " ++ (phrase ++ line_end)))

-- A page may have its own style, and else nothing: no script, and nothing from outside (Content Security Policy). Other
-- bodies have no such line.
abbrev pub policy_line : BodyKind → List ℕ
policy_line Html = codes "Content-Security-Policy: default-src 'none';style-src 'unsafe-inline'" ++ line_end
policy_line kind = []

unfoldable pub header_lines : List ℕ → List ℕ → ℕ → List ℕ
header_lines kind policy size =
    codes "Content-Type: "
    ++ (kind ++ (line_end ++ (policy ++ (codes "Content-Length: " ++ (decimal size ++ (line_end
    ++ (codes "Connection: close" ++ (line_end ++ line_end))))))))

-- the response of a status with a body
abbrev pub response : ℕ → BodyKind → List ℕ → List ℕ
response status content body =
    status_line status (phrase_of status) ++ header_lines (content_type content) (policy_line content) (length body)
    ++ body

abbrev pub json_response : ℕ → Data → List ℕ
json_response status d = response status Json (compact_text d)

-- ---- the three responses

unfoldable pub problem_response : Problem → List ℕ
problem_response p = json_response (problem_status p) (problem_data p)

unfoldable pub answer_response : Answer → List ℕ
answer_response a = json_response (answer_status a) (answer_data a)

unfoldable pub text_response : BodyKind → List ℕ → List ℕ
text_response content body = response 200 content body
