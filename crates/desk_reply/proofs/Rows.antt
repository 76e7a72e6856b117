-- Worked examples, computed from the definitions.
use Rattle.std.proofs.Common.{◌≡◌, [], ◌∷◌, ◌++◌, map, codes, refl}
use Rattle.std.specs.Fmt.{digits}
use Rattle.serde_json.proofs.OnLiterals.{serde_json_on_literals}
use Rattle.serde_json.specs.Written.{compact_text}
use Rattle.office_types.specs.declared.refusal.Refusal.TheVariants as no
use Rattle.office_types.specs.declared.reply.Reply.TheVariants.{Done, Number, Start, Counts, Release, Refused}
use Rattle.office_history.specs.declared.arrival.Answer.TheVariants.{Reply, KeyReused}
use Rattle.desk_types.specs.declared.problem.Problem.TheVariants.{BadRequest, NotFound, WrongMethod, NoLength, TooLarge}
use Rattle.desk_types.specs.declared.problem.Problem.TheVariants.{TryAgain}
use Rattle.desk_reply.specs.Reply.{answer_data, answer_status, problem_data}
use Rattle.desk_reply.specs.Response.{answer_response, header_lines, problem_response, status_line, text_response}
use Rattle.desk_reply.specs.declared.responses.BodyKind.TheVariants.{Plain, Bytes, Html}

number : answer_response (Reply (Number 256))
    ≡ codes "HTTP/1.1 200 OK\r\nContent-Type: application/json\r\n"
    ++ codes "Content-Length: 14\r\nConnection: close\r\n\r\n{\"number\":256}"
unfolding answer_response status_line header_lines serde_json_on_literals digits
number = refl

no_net : answer_response (Reply (Refused no.NoNet))
    ≡ codes "HTTP/1.1 404 Not Found\r\nContent-Type: application/json\r\n"
    ++ codes "Content-Length: 29\r\nConnection: close\r\n\r\n{\"name\":\"NoNet\",\"refused\":40}"
unfolding answer_response status_line header_lines serde_json_on_literals digits
no_net = refl

bad_request : problem_response BadRequest
    ≡ codes "HTTP/1.1 400 Bad Request\r\nContent-Type: application/json\r\n"
    ++ codes "Content-Length: 23\r\nConnection: close\r\n\r\n{\"error\":\"bad request\"}"
unfolding problem_response status_line header_lines serde_json_on_literals digits
bad_request = refl

no_networks : text_response Plain []
    ≡ codes "HTTP/1.1 200 OK\r\nContent-Type: text/plain\r\nContent-Length: 0\r\nConnection: close\r\n\r\n"
unfolding text_response status_line header_lines digits
no_networks = refl

bytes : text_response Bytes (codes "BU_:\n")
    ≡ codes "HTTP/1.1 200 OK\r\nContent-Type: application/octet-stream\r\n"
    ++ codes "Content-Length: 5\r\nConnection: close\r\n\r\nBU_:\n"
unfolding text_response status_line header_lines digits
bytes = refl

-- a page alone has a policy
page : text_response Html (codes "<p>\n")
    ≡ codes "HTTP/1.1 200 OK\r\nContent-Type: text/html; charset=us-ascii\r\n"
    ++ codes "Content-Security-Policy: default-src 'none';style-src 'unsafe-inline'\r\n"
    ++ codes "Content-Length: 4\r\nConnection: close\r\n\r\n<p>\n"
unfolding text_response status_line header_lines digits
page = refl

replies : map (λ reply. compact_text (answer_data (Reply reply))) (Done ∷ Number 0 ∷ Start 16 ∷ Counts 3 0
    ∷ Release 1 ∷ Refused no.BlockFull ∷ Refused (no.FileFault (record { fault = 30; at = 565 })) ∷ [])
    ≡ codes "{\"done\":true}"
    ∷ codes "{\"number\":0}"
    ∷ codes "{\"start\":16}"
    ∷ codes "{\"new\":3,\"same\":0}"
    ∷ codes "{\"release\":1}"
    ∷ codes "{\"name\":\"BlockFull\",\"refused\":48}"
    ∷ codes "{\"at\":565,\"fault\":30,\"name\":\"FileFault\",\"refused\":58}"
    ∷ []
unfolding serde_json_on_literals digits
replies = refl

key_reused : compact_text (answer_data KeyReused) ≡ codes "{\"name\":\"KeyReused\",\"refused\":70}"
unfolding serde_json_on_literals digits
key_reused = refl

statuses : map answer_status (Reply Done ∷ Reply (Counts 0 3) ∷ Reply (Refused no.NoNet)
    ∷ Reply (Refused no.NetThere) ∷ Reply (Refused no.NotJ1939) ∷ KeyReused ∷ [])
    ≡ 200 ∷ 200 ∷ 404 ∷ 409 ∷ 409 ∷ 409 ∷ []
statuses = refl

problems : map (λ problem. compact_text (problem_data problem)) (NotFound ∷ WrongMethod ∷ NoLength ∷ TooLarge
    ∷ TryAgain ∷ [])
    ≡ codes "{\"error\":\"not found\"}"
    ∷ codes "{\"error\":\"method\"}"
    ∷ codes "{\"error\":\"length required\"}"
    ∷ codes "{\"error\":\"too large\"}"
    ∷ codes "{\"error\":\"try again\"}"
    ∷ []
unfolding serde_json_on_literals
problems = refl
