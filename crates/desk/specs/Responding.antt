-- The responses to requests, on tables that hold a history.
use Rattle.std.specs.Prelude.{◌≡◌, ◌⊎◌, ℕ, List, [], ◌∷◌, ◌++◌, Option, None, Some, Result, Ok, Err, IsFalse, IsTrue}
use Rattle.std.specs.Io.KnownBytes.{Appends}
use Rattle.sqlite.specs.Held.{state}
use Rattle.sqlite.specs.State.{State}
use Rattle.sqlite.specs.Tree.{Trees}
use Rattle.sqlite_trees.specs.declared.store.Store.{Ghosts}
use Rattle.office_types.specs.declared.state.Office.{Office}
use Rattle.office_rules.specs.Profile.{Two}
use Rattle.office_history.specs.History.{Answered, IsLegal}
use Rattle.office_history.specs.declared.arrival.Answer.{Answer}
use Rattle.store.specs.Holding.{Holding, Keeps, Leaves}
use Rattle.store.specs.Looking.{IsShown}
use Rattle.store.specs.Office.{OfficeView}
use Rattle.desk_types.specs.Moved.{AppendsFront}
use Rattle.desk_types.specs.declared.fault.DeskFault.{DeskFault}
use Rattle.desk_types.specs.declared.fault.DeskFault.TheVariants.{Read, Write, Memory}
use Rattle.desk_types.specs.declared.problem.Problem.TheVariants.{NotFound, TryAgain}
use Rattle.desk_call.specs.Call.{Requested, ArrivalSeen, arrives, fails, shows}
use Rattle.desk_call.specs.Read.{IsRequested}
use Rattle.office_types.specs.declared.look.Look.{Look}
use Rattle.office_types.specs.declared.look.LookForm.TheVariants as in_form
use Rattle.office_types.specs.declared.look.Look.TheVariants as look
use Rattle.store.specs.Calls.{OnHistory}
use Rattle.desk_reply.specs.Response.{answer_response, problem_response, text_response}
use Rattle.desk_reply.specs.declared.responses.BodyKind.{BodyKind}
use Rattle.desk_reply.specs.declared.responses.BodyKind.TheVariants.{Bytes, Html, Json, Plain}

-- what its text is: DBC text, a page, JSON, or lines
abbrev pub body_kind_of : Look → BodyKind
body_kind_of (look.Live net) = Bytes
body_kind_of (look.Release net number) = Bytes
body_kind_of (look.Page net) = Html
body_kind_of (look.ReleasePage net number) = Html
body_kind_of (look.Net net l in_form.Json) = Json
body_kind_of l = Plain

-- the response that shows a text, or says that there is none
abbrev pub shown_response : BodyKind → Option (List ℕ) → List ℕ
shown_response content None = problem_response NotFound
shown_response content (Some text) = text_response content text

-- the text is the response that shows this of the office, after the history that left it
abbrev pub IsLookResponse : List Answered → Office → Look → List ℕ → Type 0
IsLookResponse h office l text =
    (found : Option (List ℕ)) × IsShown h office l found × (text ≡ shown_response (body_kind_of l) found)

-- the arrival, which comes today, with its answer
abbrev pub answered_as : ArrivalSeen → Answer → Answered
answered_as a answer =
    record { profile = Two; team = a.team; key = a.key; content = a.content; command = a.command; answer = answer }

-- The text is the response to the request, on the history h, and h2 is the history after it: with the arrival and
-- the answer that the text shows, or the same. Where the tables hold h2, it is legal: so the answer is the office's.
abbrev pub IsResponse : List Answered → Requested → List ℕ → List Answered → Type 0
IsResponse h (fails problem) text h2 = (h2 ≡ h) × (text ≡ problem_response problem)
IsResponse h (shows l) text h2 = (h2 ≡ h) × ((office : Office) → IsLegal h office → IsLookResponse h office l text)
IsResponse h (arrives a) text h2 =
    (answer : Answer) × (h2 ≡ h ++ answered_as a answer ∷ []) × (text ≡ answer_response answer)

-- the trees keep the history, or it with the arrival that was requested
abbrev pub FollowsRequested : List Answered → Requested → Trees → Type 0
FollowsRequested h requested db =
    Keeps h db
    ⊎ ((a : ArrivalSeen) × (requested ≡ arrives a) × (answer : Answer) × Keeps (h ++ answered_as a answer ∷ []) db)

-- The text is the response, the tables hold the history after it, and a crash leaves just that one; or it says to try
-- again, and the tables, if they are still open, hold the history as before, and a crash leaves it, or it with the
-- arrival that was requested.
abbrev pub Responds : List Answered → Requested → List ℕ → State → Type 0
Responds h requested text s =
    ((h2 : List Answered) × IsResponse h requested text h2 × Holding h2 s × Leaves (Keeps h2) s)
    ⊎ ((text ≡ problem_response TryAgain) × (IsTrue s.is_open → Holding h s) × Leaves (FollowsRequested h requested) s)

-- without a response: the tables, if they are open, hold the history as before, or with the arrival that was requested,
-- and a crash leaves one of these
abbrev pub MayHaveTaken : List Answered → Requested → State → Type 0
MayHaveTaken h requested s =
    (IsTrue s.is_open
    → Holding h s
    ⊎ ((a : ArrivalSeen) × (requested ≡ arrives a) × ((answer : Answer) × Holding (h ++ answered_as a answer ∷ []) s)))
    × Leaves (FollowsRequested h requested) s

-- where the tables held a history, the connection is open, unless the office has failed
abbrev pub StaysOpen : {S : Type 0} → Ghosts S → OfficeView S → OfficeView S → Type 0
StaysOpen g old new =
    OnHistory g old.conn new.conn (λ _. IsFalse new.failed → IsTrue (state g new.conn).is_open)

-- ---- one connection

-- the whole response was written
abbrev pub HasServed : List Answered → Option (List ℕ) → Option (List ℕ) → Option (List ℕ) → State → Type 0
HasServed h left reported_old reported_new s =
    (requested : Requested) × (text : List ℕ) × IsRequested left requested × Responds h requested text s
    × Appends reported_old reported_new text

-- a beginning of the response was written, and the tables are as if it had all been
abbrev pub HasBegunToRespond : List Answered → Option (List ℕ) → Option (List ℕ) → Option (List ℕ) → State → Type 0
HasBegunToRespond h left reported_old reported_new s =
    (requested : Requested) × (text : List ℕ) × IsRequested left requested × Responds h requested text s
    × AppendsFront reported_old reported_new text

-- nothing was written, since memory ran out
abbrev pub HasGivenUp : List Answered → Option (List ℕ) → State → Type 0
HasGivenUp h left s =
    (Holding h s × Leaves (Keeps h) s)
    ⊎ ((requested : Requested) × IsRequested left requested × MayHaveTaken h requested s)

-- what a connection does on a history, by how it ends: as it was, where no request came
abbrev pub Serves : {T : Type 0} → List Answered → Result T DeskFault
    → Option (List ℕ) → Option (List ℕ) → Option (List ℕ) → State → Type 0
Serves h (Ok v) left reported_old reported_new s = HasServed h left reported_old reported_new s
Serves h (Err Read) left reported_old reported_new s = Holding h s × Leaves (Keeps h) s
Serves h (Err Write) left reported_old reported_new s = HasBegunToRespond h left reported_old reported_new s
Serves h (Err Memory) left reported_old reported_new s = HasGivenUp h left s

-- ---- one connection to an office that has failed

-- the response to a request: whatever reaches the office is answered to try again
abbrev pub failed_response : Requested → List ℕ
failed_response (fails problem) = problem_response problem
failed_response requested = problem_response TryAgain

-- the whole of that response was written
abbrev pub HasRefused : Option (List ℕ) → Option (List ℕ) → Option (List ℕ) → Type 0
HasRefused left reported_old reported_new =
    (requested : Requested) × IsRequested left requested × Appends reported_old reported_new (failed_response requested)

-- a beginning of it was written
abbrev pub HasBegunRefusal : Option (List ℕ) → Option (List ℕ) → Option (List ℕ) → Type 0
HasBegunRefusal left reported_old reported_new =
    (requested : Requested) × IsRequested left requested
    × AppendsFront reported_old reported_new (failed_response requested)

-- what a connection to that office does, by how it ends; nothing is written where no request came or memory ran out
abbrev pub Refuses : {T : Type 0} → Result T DeskFault → Option (List ℕ) → Option (List ℕ) → Option (List ℕ) → Type 0
Refuses (Ok v) left reported_old reported_new = HasRefused left reported_old reported_new
Refuses (Err Read) left reported_old reported_new = reported_new ≡ reported_old
Refuses (Err Write) left reported_old reported_new = HasBegunRefusal left reported_old reported_new
Refuses (Err Memory) left reported_old reported_new = reported_new ≡ reported_old
