-- Connections that are served one after the other.
use Rattle.std.specs.Prelude.{◌≡◌, ◌⊎◌, ℕ, List, [], ◌∷◌, ◌++◌, All, Contains, map, Bool, true, false, Option, None}
use Rattle.std.specs.Prelude.{Some, option_map, IfSome, IsTrue, IsFalse, Result, Ok, Err, ⊤, codes}
use Rattle.sqlite.specs.State.{State}
use Rattle.sqlite.specs.Tree.{Trees}
use Rattle.office_history.specs.History.{Answered, IsLegalHistory}
use Rattle.office_history.specs.declared.arrival.Answer.{Answer}
use Rattle.office_history.specs.Laws.{IsInRange}
use Rattle.store.specs.Holding.{Holding, Keeps, Leaves}
use Rattle.desk_types.specs.Moved.{AppendsFront}
use Rattle.desk_types.specs.declared.fault.DeskFault.{DeskFault}
use Rattle.desk_types.specs.declared.fault.DeskFault.TheVariants.{Read, Write, Memory}
use Rattle.desk_types.specs.declared.problem.Problem.TheVariants.{TryAgain}
use Rattle.desk_call.specs.Call.{Requested, ArrivalSeen, arrives}
use Rattle.desk_call.specs.Read.{IsNotWhole, IsRequested}
use Rattle.desk_reply.specs.Response.{problem_response}
use Rattle.desk.specs.Responding.{IsResponse, answered_as, failed_response}

-- how a connection ended: what was written to its peer, and how many of its reads and of its writes failed
pub record Ending : Type 0 where
  pub written : List ℕ
  pub failed_reads : ℕ
  pub failed_writes : ℕ

-- a connection: whether the office had failed when it came, what its peer sends and how it ended, if these are known,
-- and the fault that ended it, if any
pub record Visit : Type 0 where
  pub office_failed : Bool
  pub sent : Option (List ℕ)
  pub ending : Option Ending
  pub fault : Option DeskFault

-- what was written to the peer, if that is known
abbrev pub written_to : Visit → Option (List ℕ)
written_to v = option_map (λ e. e.written) v.ending

-- the fault that ended a connection
abbrev pub fault_of : {T : Type 0} → Result T DeskFault → Option DeskFault
fault_of (Ok v) = None
fault_of (Err fault) = Some fault

-- a beginning of what the peer sends holds no whole request, if that is known
abbrev pub IsCutShort : Option (List ℕ) → Type 0
IsCutShort sent = IfSome sent (λ input. (bytes : List ℕ) × (rest : List ℕ) × (input ≡ bytes ++ rest) × IsNotWhole bytes)

-- What ended the connection so. Without a fault no read and no write failed. With `Read` one read failed, before the
-- request was whole, and no write; with `Write` one write, and no read. With `Memory` no read and no write failed.
abbrev pub IsCause : Option DeskFault → Option (List ℕ) → Option Ending → Type 0
IsCause None sent ending = IfSome ending (λ e. (e.failed_reads ≡ 0) × (e.failed_writes ≡ 0))
IsCause (Some Read) sent ending = IsCutShort sent × IfSome ending (λ e. (e.failed_reads ≡ 1) × (e.failed_writes ≡ 0))
IsCause (Some Write) sent ending = IfSome ending (λ e. (e.failed_reads ≡ 0) × (e.failed_writes ≡ 1))
IsCause (Some Memory) sent ending = IfSome ending (λ e. (e.failed_reads ≡ 0) × (e.failed_writes ≡ 0))

abbrev pub HasCause : Visit → Type 0
HasCause v = IsCause v.fault v.sent v.ending

-- this was written, if that is known
abbrev pub HasText : Option (List ℕ) → List ℕ → Type 0
HasText written text = IfSome written (λ bytes. bytes ≡ text)

-- a beginning of this was written, if that is known
abbrev pub HasFront : Option (List ℕ) → List ℕ → Type 0
HasFront written text = IfSome written (λ bytes. (rest : List ℕ) × (text ≡ bytes ++ rest))

-- the text is the response to the request, and h2 is the history after it; or the text says to try again
abbrev pub IsReply : List Answered → Option (List ℕ) → List ℕ → List Answered → Type 0
IsReply h sent text h2 =
    (requested : Requested) × IsRequested sent requested
    × (IsResponse h requested text h2 ⊎ ((h2 ≡ h) × (text ≡ problem_response TryAgain)))

-- the history is as before, or goes on with the arrival that was requested
abbrev pub MayGoOn : List Answered → Option (List ℕ) → List Answered → Type 0
MayGoOn h sent h2 =
    (h2 ≡ h)
    ⊎ ((a : ArrivalSeen) × (answer : Answer) × IsRequested sent (arrives a) × (h2 ≡ h ++ answered_as a answer ∷ []))

-- from one history to another by a connection that ended so: with its whole response, with none, or with a beginning
abbrev pub LeadsBy : Option DeskFault → List Answered → Option (List ℕ) → Option (List ℕ) → List Answered → Type 0
LeadsBy None h sent written h2 = (text : List ℕ) × IsReply h sent text h2 × HasText written text
LeadsBy (Some Read) h sent written h2 = (h2 ≡ h) × HasText written []
LeadsBy (Some Write) h sent written h2 = (text : List ℕ) × IsReply h sent text h2 × HasFront written text
LeadsBy (Some Memory) h sent written h2 = MayGoOn h sent h2 × HasText written []

-- the same by a connection; one that comes when the office has failed leaves the history as it is
abbrev pub Leads : List Answered → Visit → List Answered → Type 0
Leads h v h2 =
    (IsTrue v.office_failed × (h2 ≡ h)) ⊎ (IsFalse v.office_failed × LeadsBy v.fault h v.sent (written_to v) h2)

-- each connection leads from the history after the one before it
abbrev pub Follows : List Answered → List Visit → List Answered → Type 0
Follows h [] h2 = h2 ≡ h
Follows h (v ∷ later) h2 = (h1 : List Answered) × Leads h v h1 × Follows h1 later h2

-- the trees keep the history with an arrival that was requested, and of whose answer nothing was written but a
-- beginning of the text that says to try again
abbrev pub KeepsOneMore : List Answered → Option (List ℕ) → Option (List ℕ) → Trees → Type 0
KeepsOneMore h sent written db =
    (a : ArrivalSeen) × IsRequested sent (arrives a) × HasFront written (problem_response TryAgain)
    × (answer : Answer) × Keeps (h ++ answered_as a answer ∷ []) db

-- the trees keep the history, or it with the arrival of one of the connections, which had no answer
abbrev pub KeepsWithOneVisit : List Answered → List Visit → Trees → Type 0
KeepsWithOneVisit h visits db =
    Keeps h db ⊎ ((v : Visit) × Contains visits v × KeepsOneMore h v.sent (written_to v) db)

-- A connection that ended so leads to a legal history, whose commands are in range, and which the tables hold as long
-- as they are open. A crash leaves that history, or it and the arrival, if that had no answer.
pub record HasGoneOn (h : List Answered) (fault : Option DeskFault) (sent written : Option (List ℕ)) (s : State) : Type
    0 where
  pub after : List Answered
  pub leads : LeadsBy fault h sent written after
  pub legal : IsLegalHistory after
  pub in_range : All IsInRange after
  pub held : IsTrue s.is_open → Holding after s
  pub left : Leaves (λ db. Keeps after db ⊎ KeepsOneMore after sent written db) s

-- the same of a visit
abbrev pub GoesOn : List Answered → Visit → State → Type 0
GoesOn h v s = HasGoneOn h v.fault v.sent (written_to v) s

-- The connections lead to a legal history, whose commands are in range, and which the tables hold as long as they are
-- open. They are, unless the office has failed. A crash leaves that history, or it and one arrival that had no
-- answer.
pub record HasServedAll (h : List Answered) (visits : List Visit) (failed : Bool) (s : State) : Type 0 where
  pub after : List Answered
  pub follows : Follows h visits after
  pub legal : IsLegalHistory after
  pub in_range : All IsInRange after
  pub is_open : IsFalse failed → IsTrue s.is_open
  pub held : IsTrue s.is_open → Holding after s
  pub left : Leaves (KeepsWithOneVisit after visits) s

-- ---- an office that has failed

-- from a connection to an office that has failed, which ended so: a request to that office gets the answer to try again
abbrev pub DeclinesBy : Option DeskFault → Option (List ℕ) → Option (List ℕ) → Type 0
DeclinesBy None sent written =
    (requested : Requested) × IsRequested sent requested × HasText written (failed_response requested)
DeclinesBy (Some Read) sent written = HasText written []
DeclinesBy (Some Write) sent written =
    (requested : Requested) × IsRequested sent requested × HasFront written (failed_response requested)
DeclinesBy (Some Memory) sent written = HasText written []

-- if the office had failed when the connection came, it is declined so
abbrev pub IsDeclined : Visit → Type 0
IsDeclined v = IsTrue v.office_failed → DeclinesBy v.fault v.sent (written_to v)

-- Whether the office has failed goes from each connection to the next one: so before the first of them, and so after
-- the last. Once it has, it has for all that come later.
abbrev pub FailsOnce : Bool → List Visit → Bool → Type 0
FailsOnce before [] after = after ≡ before
FailsOnce before (v ∷ later) after =
    (v.office_failed ≡ before) × (next : Bool) × (IsTrue before → IsTrue next) × FailsOnce next later after

-- where the office fails, that is written to the standard error, or a beginning of it; else nothing is written there
abbrev pub SaysFailure : Bool → Bool → Option (List ℕ) → Option (List ℕ) → Type 0
SaysFailure false true old new = AppendsFront old new (codes "lost 72\n")
SaysFailure before after old new = new ≡ old

-- ---- the connections of a listener

-- these connections came, in order, if the listener shows what peers send
abbrev pub AreAccepted : Option (List (List ℕ)) → Option (List (List ℕ)) → List Visit → Type 0
AreAccepted None new visits = ⊤
AreAccepted (Some coming) new visits =
    (sent : List (List ℕ)) × (left : List (List ℕ)) × (coming ≡ sent ++ left) × (new ≡ Some left)
    × (map (λ v. v.sent) visits ≡ map Some sent)

-- These connections ended, in order, if the listener shows how. It may cease to show it, and never does again.
abbrev pub AreClosed : Option (List Ending) → Option (List Ending) → List Visit → Type 0
AreClosed None new visits = new ≡ None
AreClosed (Some ended) None visits = ⊤
AreClosed (Some ended) (Some more) visits =
    (endings : List Ending) × (more ≡ ended ++ endings) × (map (λ v. v.ending) visits ≡ map Some endings)

-- the first connection that comes sends these bytes
abbrev pub IsAccepted : Option (List (List ℕ)) → Option (List (List ℕ)) → Option (List ℕ) → Type 0
IsAccepted None new sent = ⊤
IsAccepted (Some coming) new sent =
    (bytes : List ℕ) × (left : List (List ℕ)) × (coming ≡ bytes ∷ left) × (new ≡ Some left) × (sent ≡ Some bytes)

-- no connection is left, if the listener shows them
abbrev pub NoneWaits : Option (List (List ℕ)) → Type 0
NoneWaits coming = IfSome coming (λ all. all ≡ [])

-- nothing is written yet on a connection
abbrev pub Starts : Option (List Ending) → Option (List ℕ) → Type 0
Starts None written = ⊤
Starts (Some ended) written = written ≡ Some []

-- a connection ends, to which this was written, and of which so many reads and so many writes failed
abbrev pub IsClosed : Option (List Ending) → Option (List Ending) → Option (List ℕ) → ℕ → ℕ → Type 0
IsClosed None new written reads writes = new ≡ None
IsClosed (Some ended) None written reads writes = ⊤
IsClosed (Some ended) (Some more) written reads writes =
    (bytes : List ℕ) × (written ≡ Some bytes)
    × (more ≡ ended ++ record { written = bytes; failed_reads = reads; failed_writes = writes } ∷ [])
