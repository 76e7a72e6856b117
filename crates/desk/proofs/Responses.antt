-- How a response follows from what the store and the writer of responses state.
use Rattle.desk.proofs.Common.{◌≡◌, ◌⊎◌, ℕ, List, [], ◌∷◌, ◌++◌, Option, Result, Ok, Err, IfOk, OnErr, inl, inr, refl}
use Rattle.desk.proofs.Common.{sym, subst, IsTrue, State, Trees, Office, Answered, IsLegal, Answer, Holding, Keeps}
use Rattle.desk.proofs.Common.{Leaves, IsShown, TryAgain, Requested, ArrivalSeen, arrives, fails, shows}
use Rattle.desk.proofs.Common.{answer_response, problem_response}
use Rattle.desk_types.specs.declared.problem.Problem.{Problem}
use Rattle.office_types.specs.declared.look.Look.{Look}
use Rattle.desk.specs.Responding.{FollowsRequested, MayHaveTaken, Responds, answered_as, body_kind_of, shown_response}

-- what holds of a text holds of the value that has it
pub on_text : {V E : Type 0} (items : V → List ℕ) (r : Result V E) (text : List ℕ) (Q : List ℕ → Type 0)
    → IfOk r (λ v. items v ≡ text) → Q text → IfOk r (λ v. Q (items v))
on_text items (Ok v) text Q e q = subst Q (sym e) q
on_text items (Err x) text Q e q = tt

pub on_err : {V E : Type 0} (r : Result V E) (Q : Type 0) → Q → OnErr r Q
on_err (Ok v) Q q = tt
on_err (Err x) Q q = q

-- ---- what a crash leaves

-- while a connection is open, a crash leaves what it shows: so it leaves what the tables hold
pub left_now : (h : List Answered) (s : State) → (IsTrue s.is_open → (db : Trees) → s.may_leave db → db ≡ s.now.trees)
    → Holding h s → Leaves (Keeps h) s
left_now h s law holding db may = subst (Keeps h) (sym (law holding.is_open db may)) holding.keeps

pub follows_same : (h : List Answered) (requested : Requested) (s : State) → Leaves (Keeps h) s
    → Leaves (FollowsRequested h requested) s
follows_same h requested s left db may = inl (left db may)

pub follows_answer : (h : List Answered) (a : ArrivalSeen) (answer : Answer) (s : State)
    → Leaves (Keeps (h ++ answered_as a answer ∷ [])) s → Leaves (FollowsRequested h (arrives a)) s
follows_answer h a answer s left db may = inr (a, refl, answer, left db may)

pub follows_lost : (h : List Answered) (a : ArrivalSeen) (s : State)
    → Leaves (λ db. Keeps h db ⊎ ((answer : Answer) × Keeps (h ++ answered_as a answer ∷ []) db)) s
    → Leaves (FollowsRequested h (arrives a)) s
follows_lost h a s left db may = elim (left db may) [ inl same ↦ inl same | inr one ↦ inr (a, refl, one.0, one.1) ]

pub may_same : (h : List Answered) (requested : Requested) (s : State) → Holding h s → Leaves (Keeps h) s
    → MayHaveTaken h requested s
may_same h requested s holding left = (λ opened. inl holding, follows_same h requested s left)

pub may_lost : (h : List Answered) (requested : Requested) (s : State) → (IsTrue s.is_open → Holding h s)
    → Leaves (FollowsRequested h requested) s → MayHaveTaken h requested s
may_lost h requested s held left = (λ opened. inl (held opened), left)

pub may_answered : (h : List Answered) (a : ArrivalSeen) (answer : Answer) (s : State)
    → Holding (h ++ answered_as a answer ∷ []) s → Leaves (Keeps (h ++ answered_as a answer ∷ [])) s
    → MayHaveTaken h (arrives a) s
may_answered h a answer s holding left = (λ opened. inr (a, refl, (answer, holding)), follows_answer h a answer s left)

-- ---- responses

pub fails_so : (h : List Answered) (problem : Problem) (s : State) → Holding h s → Leaves (Keeps h) s
    → Responds h (fails problem) (problem_response problem) s
fails_so h problem s held left = inl (h, (refl, refl), held, left)

pub try_again : (h : List Answered) (requested : Requested) (s : State) → (IsTrue s.is_open → Holding h s)
    → Leaves (FollowsRequested h requested) s → Responds h requested (problem_response TryAgain) s
try_again h requested s held left = inr (refl, held, left)

pub looked : (h : List Answered) (l : Look) (found : Option (List ℕ)) (s : State)
    → ((office : Office) → IsLegal h office → IsShown h office l found) → Holding h s → Leaves (Keeps h) s
    → Responds h (shows l) (shown_response (body_kind_of l) found) s
looked h l found s shown held left = inl (h, (refl, λ office legal. (found, shown office legal, refl)), held, left)

pub arrived : (h : List Answered) (a : ArrivalSeen) (answer : Answer) (s : State)
    → Holding (h ++ answered_as a answer ∷ []) s → Leaves (Keeps (h ++ answered_as a answer ∷ [])) s
    → Responds h (arrives a) (answer_response answer) s
arrived h a answer s held left = inl (h ++ answered_as a answer ∷ [], (answer, refl, refl), held, left)

-- ---- an example: after what is no arrival a crash leaves the history alone
