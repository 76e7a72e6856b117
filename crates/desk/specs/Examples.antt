-- Small runs, computed.
use Rattle.std.specs.Prelude.{◌≡◌, ℕ, List, [], ◌∷◌, ◌++◌, Bool, true, false, Option, Some, codes}
use Rattle.std.proofs.Common.{inr, refl}
use Rattle.sqlite.specs.Tree.{Trees}
use Rattle.office_history.specs.History.{Answered}
use Rattle.office_history.specs.declared.arrival.Answer.{Answer}
use Rattle.store.specs.Holding.{Keeps}
use Rattle.desk_types.specs.declared.fault.DeskFault.TheVariants.{Read, Write}
use Rattle.desk_types.specs.declared.problem.Problem.TheVariants.{NotFound, TryAgain}
use Rattle.desk_call.specs.Call.{ArrivalSeen, arrives, fails, shows}
use Rattle.desk_call.specs.Read.{IsRequested}
use Rattle.office_types.specs.declared.look.Look.TheVariants.{Release}
use Rattle.desk_reply.specs.Response.{problem_response}
use Rattle.desk.specs.Responding.{answered_as, failed_response}
use Rattle.desk.specs.Serving.{AreAccepted, AreClosed, Ending, FailsOnce, Follows, HasCause, KeepsOneMore, SaysFailure}
use Rattle.desk.specs.Serving.{Visit}

-- one read failed, and nothing was written
abbrev unanswered : Ending
unanswered = record { written = []; failed_reads = 1; failed_writes = 0 }

-- a peer that sends the beginning of a request, and fails
abbrev broken : Visit
broken = record { office_failed = false; sent = Some (codes "GET /n"); ending = Some unanswered; fault = Some Read }

-- two such connections leave the history as it was
two_broken : (h : List Answered) → Follows h (broken ∷ broken ∷ []) h
two_broken h = (h, inr (refl, (refl, refl)), (h, inr (refl, (refl, refl)), refl))

-- the same two, between which the office fails
fails_between : FailsOnce false (broken ∷ (record broken { office_failed = true }) ∷ []) true
fails_between = (refl, true, λ failed. refl, (refl, true, λ failed. refl, refl))

-- an office that has failed isn't sound for any later connection
stays_failed : (next : Bool) → FailsOnce true (broken ∷ []) next → ⊥
stays_failed next it = let sound = it.0 in cc

-- one of two connections came, and nothing was written on it
one_came : AreAccepted (Some (codes "GET /n" ∷ codes "GET" ∷ [])) (Some (codes "GET" ∷ [])) (broken ∷ [])
one_came = (codes "GET /n" ∷ [], codes "GET" ∷ [], refl, refl, refl)

one_ended : AreClosed (Some []) (Some (unanswered ∷ [])) (broken ∷ [])
one_ended = (unanswered ∷ [], refl, refl)

-- a connection of which no read failed doesn't end by `Read`
not_for_nothing : HasCause (record broken { ending = Some (record unanswered { failed_reads = 0 }) }) → ⊥
not_for_nothing cause = let failed = cause.1.0 in cc

-- nor does one end by `Write` of which a read failed, too
abbrev both_failed : Ending
both_failed = record { written = []; failed_reads = 1; failed_writes = 1 }

not_after_a_read : HasCause (record broken { ending = Some both_failed; fault = Some Write }) → ⊥
not_after_a_read cause = let failed = cause.0 in cc

-- a request for nothing that is there is answered as ever once the office has failed, and one for a release is answered
-- to try again
answered_still : failed_response (fails NotFound) ≡ problem_response NotFound
answered_still = refl

answered_to_try_again : (net : List ℕ) → failed_response (shows (Release net 1)) ≡ problem_response TryAgain
answered_to_try_again net = refl

-- the office fails, and the line that says so is the whole text; later nothing more is written
says_lost : SaysFailure false true (Some (codes "listening\n")) (Some (codes "listening\nlost 72\n"))
says_lost = (codes "lost 72\n", [], refl, refl)

says_it_once : SaysFailure true true (Some (codes "lost 72\n")) (Some (codes "lost 72\n"))
says_it_once = refl

-- an arrival that was requested, and of whose answer nothing was written, may be kept
kept_unanswered : (h : List Answered) (a : ArrivalSeen) (answer : Answer) (sent : Option (List ℕ)) (db : Trees)
    → IsRequested sent (arrives a) → Keeps (h ++ answered_as a answer ∷ []) db → KeepsOneMore h sent (Some []) db
kept_unanswered h a answer sent db requested kept = (a, requested, (problem_response TryAgain, refl), answer, kept)
