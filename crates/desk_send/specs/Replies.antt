-- What comes of a request that is sent to a desk until it is answered.
use Rattle.std.specs.Prelude.{◌≡◌, ◌==◌, ℕ, zero, suc, Bool, true, false, List, [], ◌∷◌, Result, Ok, Err, ⊤}
use Rattle.desk_client.specs.Received.{code_of, cut, not_http, too_long, whole}
use Rattle.desk_client.specs.declared.fault.AskFault.TheVariants.{Connect, Connection}
use Rattle.desk_send.specs.Answer.{IsAnswer, IsWritten}
use Rattle.desk_types.specs.declared.fault.DeskFault.TheVariants as desk
use Rattle.office_history.specs.declared.arrival.Answer.{Answer}
use Rattle.desk_send.specs.Desks.{Asked, Desks, Takes, Turn, turn}
use Rattle.desk_send.specs.declared.sending.SendFault.{SendFault}
use Rattle.desk_send.specs.declared.sending.SendFault.TheVariants.{NoReply, Memory}
use Rattle.desk_send.specs.declared.sending.Step.{Step}
use Rattle.desk_send.specs.declared.sending.Step.TheVariants as step

-- Whether the request is sent again: where no connection was made or it failed, where the response is cut, and where
-- the office couldn't answer, which is status 503. Nobody knows then whether it was carried out.
abbrev pub is_again : Asked → Bool
is_again (Ok (whole status body)) = code_of status == 503
is_again (Ok cut) = true
is_again (Ok not_http) = false
is_again (Ok too_long) = false
is_again (Err Connect) = true
is_again (Err (Connection desk.Read)) = true
is_again (Err (Connection desk.Write)) = true
is_again (Err (Connection desk.Memory)) = false

-- what came is the response by which a desk writes the answer
abbrev pub IsReply : Asked → Answer → Type 0
IsReply (Ok (whole status body)) a = IsWritten (code_of status) body a
IsReply (Ok cut) a = ⊥
IsReply (Ok not_http) a = ⊥
IsReply (Ok too_long) a = ⊥
IsReply (Err fault) a = ⊥

abbrev pub HasNoReply : Asked → Type 0
HasNoReply came = (a : Answer) → IsAnswer a → ¬ (IsReply came a)

-- memory may run out for the connection, or for what a whole response says
abbrev pub MayLackMemory : Asked → Type 0
MayLackMemory (Ok (whole status body)) = ⊤
MayLackMemory (Ok cut) = ⊥
MayLackMemory (Ok not_http) = ⊥
MayLackMemory (Ok too_long) = ⊥
MayLackMemory (Err Connect) = ⊥
MayLackMemory (Err (Connection desk.Read)) = ⊥
MayLackMemory (Err (Connection desk.Write)) = ⊥
MayLackMemory (Err (Connection desk.Memory)) = ⊤

-- a try of which this came, after which the request isn't sent again, ends with this
abbrev pub EndsWith : Asked → Result Answer SendFault → Type 0
EndsWith came (Ok a) = IsReply came a
EndsWith came (Err NoReply) = HasNoReply came
EndsWith came (Err Memory) = MayLackMemory came

-- a try of which this came: the next ones follow where the request is sent again, and else none does
abbrev pub GoesOn : Bool → List Turn → Type 0 → Asked → Result Answer SendFault → Type 0
GoesOn true later Next came r = Next
GoesOn false later Next came r = (later ≡ []) × EndsWith came r

-- A request is sent to a port in at most so many tries: just these turns are taken, and this is the result. Each turn
-- sends exactly the bytes of the request to exactly this port. After a turn the tries that are left follow if the request
-- is to be sent again, and no turn if not. With no try left no turn is taken, and there is no reply.
abbrev pub Comes : Desks → ℕ → List ℕ → ℕ → List Turn → Result Answer SendFault → Type 0
Comes desks port request zero turns r = (turns ≡ []) × (r ≡ Err NoReply)
Comes desks port request (suc tries) turns r =
    (came : Asked) × (later : List Turn) × (turns ≡ turn port request came ∷ later) × desks.sent port request came
    × GoesOn (is_again came) later (Comes desks port request tries later r) came r

-- so it was: these turns were taken, and no other one
abbrev pub HasCome : Desks → Desks → ℕ → List ℕ → ℕ → Result Answer SendFault → Type 0
HasCome before after port request tries r =
    (turns : List Turn) × Takes before after turns × Comes before port request tries turns r

-- what a try shows
abbrev pub IsStep : Asked → Step → Type 0
IsStep came (step.Answered a) = (is_again came ≡ false) × IsReply came a
IsStep came step.Again = is_again came ≡ true
IsStep came step.Over = (is_again came ≡ false) × HasNoReply came
IsStep came step.OutOfMemory = (is_again came ≡ false) × MayLackMemory came

-- the same of a try, which is one turn
abbrev pub Shows : Desks → Desks → ℕ → List ℕ → Step → Type 0
Shows before after port request shown =
    (came : Asked) × before.sent port request came × Takes before after (turn port request came ∷ [])
    × IsStep came shown
