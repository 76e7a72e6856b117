-- What a desk writes is received as what it is.
use Rattle.std.specs.Prelude.{ℕ, ◌≤◌, List, length}
use Rattle.serde_json.specs.Written.{compact_text}
use Rattle.office_history.specs.declared.arrival.Answer.{Answer}
use Rattle.desk_types.specs.Problem.{problem_status}
use Rattle.desk_types.specs.declared.problem.Problem.{Problem}
use Rattle.desk_reply.specs.Reply.{answer_data, answer_status, problem_data}
use Rattle.desk_reply.specs.Response.{answer_response, problem_response, text_response}
use Rattle.desk_reply.specs.declared.responses.BodyKind.{BodyKind}
use Rattle.desk_client.specs.Limits.{response_limit}
use Rattle.desk_client.specs.Received.{IsReceived, status_of, whole}

-- bytes that aren't more than are read come back as a response of this status with this body
abbrev pub ComesBack : List ℕ → ℕ → List ℕ → Type 0
ComesBack bytes status body = length bytes ≤ response_limit → IsReceived bytes (whole (status_of status) body)

-- a law: the three responses of a desk come back, a text, a problem and an answer
pub record RepliesComeBack : Type 0 where
  pub texts : (kind : BodyKind) (body : List ℕ) → ComesBack (text_response kind body) 200 body
  pub problems : (p : Problem) → ComesBack (problem_response p) (problem_status p) (compact_text (problem_data p))
  pub answers : (a : Answer) → ComesBack (answer_response a) (answer_status a) (compact_text (answer_data a))
