-- What comes of one connection, from what is known of the desk.
use Rattle.desk.proofs.Common.{◌≡◌, ◌∙◌, ◌⊎◌, ℕ, List, [], ◌∷◌, ◌++◌, Bool, true, false, Option, None, Some, Result, Ok}
use Rattle.desk.proofs.Common.{Err, IsErrOf, inl, inr, refl, sym, ap, subst, append-nil, IsTrue, IsFalse, Appends}
use Rattle.desk.proofs.Common.{State, Trees, Answered, Holding, Keeps, Leaves, AppendsFront, DeskFault, Requested}
use Rattle.desk.proofs.Common.{ArrivalSeen, arrives, TryAgain, problem_response, StopsShort, Answer}
use Rattle.std.specs.Prelude.{All, ◌+◌, IfSome, option_map}
use Rattle.office_history.specs.History.{IsLegalHistory}
use Rattle.office_history.specs.Laws.{IsInRange}
use Rattle.desk_types.specs.declared.fault.DeskFault.TheVariants.{Read, Write, Memory}
use Rattle.desk_call.specs.Read.{IsRequested}
use Rattle.desk.specs.Devices.{CountsFault, Failures}
use Rattle.desk.specs.Responding.{FollowsRequested, HasGivenUp, MayHaveTaken, Refuses, Responds, Serves, answered_as}
use Rattle.desk.specs.Serving.{AreAccepted, IsAccepted, DeclinesBy, AreClosed, Ending, IsClosed, IsCause, IsCutShort}
use Rattle.desk.specs.Serving.{IsReply, KeepsOneMore, LeadsBy, HasGoneOn, MayGoOn, Starts, Visit, HasText, HasFront}
use Rattle.desk.specs.Serving.{fault_of}

-- ---- what was written

-- what is known of the bytes that were written, if the listener shows connections that have ended
abbrev pub written_of : Option (List Ending) → Option (List ℕ) → Option (List ℕ)
written_of None reported = None
written_of (Some ended) reported = reported

-- an ending with these bytes, failed reads and failed writes
abbrev ending_with : ℕ → ℕ → List ℕ → Ending
ending_with reads writes bytes = record { written = bytes; failed_reads = reads; failed_writes = writes }

-- what is known of the ending, if the listener shows connections that have ended
abbrev pub ending_reported : Option (List Ending) → Option (List ℕ) → ℕ → ℕ → Option Ending
ending_reported None reported reads writes = None
ending_reported (Some ended) reported reads writes = option_map (ending_with reads writes) reported

pub written_is : (ended : Option (List Ending)) (reported : Option (List ℕ)) (reads writes : ℕ)
    → written_of ended reported ≡ option_map (λ (e : Ending). e.written) (ending_reported ended reported reads writes)
written_is None reported reads writes = refl
written_is (Some e) None reads writes = refl
written_is (Some e) (Some bytes) reads writes = refl

fresh : (new : Option (List ℕ)) (text : List ℕ) → Appends (Some []) new text → HasText new text
fresh None text appends = absurd appends
fresh (Some bytes) text appends = appends

fresh_front : (new : Option (List ℕ)) (text front rest : List ℕ) → text ≡ front ++ rest → Appends (Some []) new front
    → HasFront new text
fresh_front None text front rest is appends = absurd appends
fresh_front (Some bytes) text front rest is appends = (rest, subst (λ (l : List ℕ). text ≡ l ++ rest) (sym appends) is)

wrote : (ended : Option (List Ending)) (old new : Option (List ℕ)) (text : List ℕ)
    → Starts ended old → Appends old new text → HasText (written_of ended new) text
wrote None old new text starts appends = tt
wrote (Some e) old new text starts appends =
    fresh new text (subst (λ (o : Option (List ℕ)). Appends o new text) starts appends)

wrote_front : (ended : Option (List Ending)) (old new : Option (List ℕ)) (text : List ℕ)
    → Starts ended old → AppendsFront old new text → HasFront (written_of ended new) text
wrote_front None old new text starts a = tt
wrote_front (Some e) old new text starts a =
    fresh_front new text a.0 a.1 a.2 (subst (λ (o : Option (List ℕ)). Appends o new a.0) starts a.3)

wrote_nothing : (ended : Option (List Ending)) (old new : Option (List ℕ)) → Starts ended old → new ≡ old
    → HasText (written_of ended new) []
wrote_nothing None old new starts same = tt
wrote_nothing (Some e) old new starts same = subst (λ (o : Option (List ℕ)). HasText o []) (sym (same ∙ starts)) refl

-- ---- the history after it

pub decides : (b : Bool) → IsTrue b ⊎ IsFalse b
decides true = inl refl
decides false = inr refl

pub not_both : (b : Bool) → IsTrue b → IsFalse b → ⊥
not_both b holds fails = cc

pub legal_of : (h : List Answered) (s : State) → Holding h s → IsLegalHistory h
legal_of h s holding = (holding.keeps.holds.holds.office, holding.keeps.holds.holds.legal)

pub ranged_of : (h : List Answered) (s : State) → Holding h s → All IsInRange h
ranged_of h s holding = holding.keeps.holds.holds.in_range

-- the law of an open connection: a crash leaves what it shows
abbrev pub LeavesNow : State → Type 0
LeavesNow s = IsTrue s.is_open → (db : Trees) → s.may_leave db → db ≡ s.now.trees

pub left_now : (h : List Answered) (s : State) → LeavesNow s → Holding h s → Leaves (Keeps h) s
left_now h s law holding db may = subst (Keeps h) (sym (law holding.is_open db may)) holding.keeps

-- a legal history that the tables hold if they are open; a crash leaves it, or what else is stated
pub record Led (Leading : List Answered → Type 0) (Else : List Answered → Trees → Type 0) (s : State) : Type 0 where
  pub after : List Answered
  pub leads : Leading after
  pub legal : IsLegalHistory after
  pub in_range : All IsInRange after
  pub held : IsTrue s.is_open → Holding after s
  pub left : Leaves (λ db. Keeps after db ⊎ Else after db) s

-- it is the history that is held
held_to : (Leading : List Answered → Type 0) (Else : List Answered → Trees → Type 0) (h2 : List Answered) (s : State)
    → Leading h2 → Holding h2 s → Leaves (Keeps h2) s → Led Leading Else s
held_to Leading Else h2 s leads holding left = record {
  after = h2;
  leads = leads;
  legal = legal_of h2 s holding;
  in_range = ranged_of h2 s holding;
  held = λ opened. holding;
  left = λ db may. inl (left db may);
}

-- where the text that was written says to try again, one more arrival may be left
abbrev IsSentAgain : Option (List ℕ) → List ℕ → List Answered → Trees → Type 0
IsSentAgain sent text h2 db = (a : ArrivalSeen) × IsRequested sent (arrives a) × (text ≡ problem_response TryAgain)
    × (answer : Answer) × Keeps (h2 ++ answered_as a answer ∷ []) db

requested_more : (h : List Answered) (sent : Option (List ℕ)) (requested : Requested) (text : List ℕ) (db : Trees)
    → IsRequested sent requested → text ≡ problem_response TryAgain → FollowsRequested h requested db
    → Keeps h db ⊎ IsSentAgain sent text h db
requested_more h sent requested text db is_requested again (inl keeps) = inl keeps
requested_more h sent requested text db is_requested again (inr one) =
    inr (one.0, subst (λ (k : Requested). IsRequested sent k) one.1 is_requested, again, one.2, one.3)

replied : (h : List Answered) (sent : Option (List ℕ)) (requested : Requested) (text : List ℕ) (s : State)
    → IsLegalHistory h → All IsInRange h → IsRequested sent requested → Responds h requested text s
    → Led (IsReply h sent text) (IsSentAgain sent text) s
replied h sent requested text s legal ranged is_requested (inl r) =
    held_to (IsReply h sent text) (IsSentAgain sent text) r.0 s (requested, is_requested, inl r.1) r.2 r.3
replied h sent requested text s legal ranged is_requested (inr r) = record {
  after = h;
  leads = (requested, is_requested, inr (refl, r.0));
  legal = legal;
  in_range = ranged;
  held = r.1;
  left = λ db may. requested_more h sent requested text db is_requested r.0 (r.2 db may);
}

gone_on : (h : List Answered) (sent : Option (List ℕ)) (requested : Requested) (s : State) → LeavesNow s
    → IsRequested sent requested
    → Holding h s ⊎ ((a : ArrivalSeen) × (requested ≡ arrives a)
    × ((answer : Answer) × Holding (h ++ answered_as a answer ∷ []) s))
    → Led (MayGoOn h sent) (IsSentAgain sent (problem_response TryAgain)) s
gone_on h sent requested s law is_requested (inl holding) =
    held_to (MayGoOn h sent) (IsSentAgain sent (problem_response TryAgain)) h s (inl refl) holding
    (left_now h s law holding)
gone_on h sent requested s law is_requested (inr t) =
    let h2 = h ++ answered_as t.0 t.2.0 ∷ [] in
    held_to (MayGoOn h sent) (IsSentAgain sent (problem_response TryAgain)) h2 s
    (inr (t.0, t.2.0, subst (λ (k : Requested). IsRequested sent k) t.1 is_requested, refl)) t.2.1
    (left_now h2 s law t.2.1)

may_have : (h : List Answered) (sent : Option (List ℕ)) (requested : Requested) (s : State) → LeavesNow s
    → IsLegalHistory h → All IsInRange h → IsRequested sent requested → MayHaveTaken h requested s
    → IsTrue s.is_open ⊎ IsFalse s.is_open → Led (MayGoOn h sent) (IsSentAgain sent (problem_response TryAgain)) s
may_have h sent requested s law legal ranged is_requested taken (inl opened) =
    gone_on h sent requested s law is_requested (taken.0 opened)
may_have h sent requested s law legal ranged is_requested taken (inr shut) = record {
  after = h;
  leads = inl refl;
  legal = legal;
  in_range = ranged;
  held = λ opened. absurd (not_both s.is_open opened shut);
  left = λ db may. requested_more h sent requested (problem_response TryAgain) db is_requested refl (taken.1 db may);
}

given_up : (h : List Answered) (sent : Option (List ℕ)) (s : State) → LeavesNow s → IsLegalHistory h → All IsInRange h
    → HasGivenUp h sent s
    → Led (MayGoOn h sent) (IsSentAgain sent (problem_response TryAgain)) s
given_up h sent s law legal ranged (inl it) = held_to (MayGoOn h sent) (IsSentAgain sent (problem_response TryAgain)) h
    s (inl refl) it.0 it.1
given_up h sent s law legal ranged (inr g) = may_have h sent g.0 s law legal ranged g.1 g.2 (decides s.is_open)

-- ---- a connection

led_to : (h : List Answered) (fault : Option DeskFault) (sent written : Option (List ℕ)) (s : State)
    → Led (LeadsBy fault h sent written) (λ h2 db. KeepsOneMore h2 sent written db) s
    → HasGoneOn h fault sent written s
led_to h fault sent written s it =
    record {
      after = it.after;
      leads = it.leads;
      legal = it.legal;
      in_range = it.in_range;
      held = it.held;
      left =
          it.left;
    }

-- it leads on by what was written
on : {Leading Leading2 : List Answered → Type 0} (sent written : Option (List ℕ)) (text : List ℕ) (s : State)
    → HasFront written text → ((h2 : List Answered) → Leading h2 → Leading2 h2)
    → Led Leading (IsSentAgain sent text) s → Led Leading2 (λ h2 db. KeepsOneMore h2 sent written db) s
on sent written text s front more it = record {
  after = it.after;
  leads = more it.after it.leads;
  legal = it.legal;
  in_range = it.in_range;
  held = it.held;
  left = λ db may. elim (it.left db may)
      [ inl keeps ↦ inl keeps | inr one ↦ inr (one.0, one.1, subst (HasFront written) one.2 front, one.3, one.4) ];
}

-- what was written is a beginning of itself
is_front : (written : Option (List ℕ)) (text : List ℕ) → HasText written text → HasFront written text
is_front None text wrote = tt
is_front (Some bytes) text wrote = ([], sym wrote ∙ sym (append-nil bytes))

no_front : (written : Option (List ℕ)) (text : List ℕ) → HasText written [] → HasFront written text
no_front None text wrote = tt
no_front (Some bytes) text wrote = (text, subst (λ (l : List ℕ). text ≡ l ++ text) (sym wrote) refl)

-- what a connection does on a history leads on by how it ended
pub led : {T : Type 0} (r : Result T DeskFault) (h : List Answered) (ended : Option (List Ending))
    (sent old new : Option (List ℕ)) (s : State) → LeavesNow s → Starts ended old
    → IsLegalHistory h → All IsInRange h → Serves h r sent old new s
    → (IsErrOf r Read ⊎ IsErrOf r Memory → new ≡ old) → HasGoneOn h (fault_of r) sent (written_of ended new) s
led (Ok v) h ended sent old new s law starts legal ranged w same =
    let text = wrote ended old new w.1 starts w.4 in
    led_to h None sent (written_of ended new) s
    (on sent (written_of ended new) w.1 s (is_front (written_of ended new) w.1 text) (λ h2 reply. (w.1, reply, text))
    (replied h sent w.0 w.1 s legal ranged w.2 w.3))
led (Err Read) h ended sent old new s law starts legal ranged kept same =
    led_to h (Some Read) sent (written_of ended new) s
    (held_to (LeadsBy (Some Read) h sent (written_of ended new))
    (λ h2 db. KeepsOneMore h2 sent (written_of ended new) db)
    h s (refl, wrote_nothing ended old new starts (same (inl refl))) kept.0 kept.1)
led (Err Write) h ended sent old new s law starts legal ranged w same =
    let text = wrote_front ended old new w.1 starts w.4 in
    led_to h (Some Write) sent (written_of ended new) s
    (on sent (written_of ended new) w.1 s text (λ h2 reply. (w.1, reply, text))
    (replied h sent w.0 w.1 s legal ranged w.2 w.3))
led (Err Memory) h ended sent old new s law starts legal ranged known same =
    let none = wrote_nothing ended old new starts (same (inr refl)) in
    led_to h (Some Memory) sent (written_of ended new) s
    (on sent (written_of ended new) (problem_response TryAgain) s
    (no_front (written_of ended new) (problem_response TryAgain) none) (λ h2 goes. (goes, none))
    (given_up h sent s law legal ranged known))

-- what a connection does at an office that has failed declines what its peer sent
pub declined : {T : Type 0} (r : Result T DeskFault) (ended : Option (List Ending)) (sent old new : Option (List ℕ))
    → Starts ended old → Refuses r sent old new → DeclinesBy (fault_of r) sent (written_of ended new)
declined (Ok v) ended sent old new starts w = (w.0, w.1, wrote ended old new _ starts w.2)
declined (Err Read) ended sent old new starts same = wrote_nothing ended old new starts same
declined (Err Write) ended sent old new starts w = (w.0, w.1, wrote_front ended old new _ starts w.2)
declined (Err Memory) ended sent old new starts same = wrote_nothing ended old new starts same

-- ---- why it ended

cut_short : (sent after : Option (List ℕ)) → StopsShort sent after → IsCutShort sent
cut_short None after short = tt
cut_short (Some input) None short = absurd short.1
cut_short (Some input) (Some rest) short = (short.0, rest, short.1, short.2)

of_ending : (P : Ending → Type 0) (ended : Option (List Ending)) (reported : Option (List ℕ)) (reads writes : ℕ)
    → ((bytes : List ℕ) → P (ending_with reads writes bytes)) → IfSome (ending_reported ended reported reads writes) P
of_ending P None reported reads writes is = tt
of_ending P (Some e) None reads writes is = tt
of_ending P (Some e) (Some bytes) reads writes is = is bytes

-- the calls of its devices that failed are its cause, where none had failed before
pub caused : {T : Type 0} (r : Result T DeskFault) (ended : Option (List Ending))
    (reported sent after : Option (List ℕ))
    (old new : Failures) → old.reads ≡ 0 → old.writes ≡ 0 → CountsFault r old new
    → (IsErrOf r Read → StopsShort sent after)
    → IsCause (fault_of r) sent (ending_reported ended reported new.reads new.writes)
caused (Ok v) ended reported sent after old new no_read no_write count short =
    of_ending (λ e. (e.failed_reads ≡ 0) × (e.failed_writes ≡ 0)) ended reported new.reads new.writes
    (λ bytes. (count.0 ∙ no_read, count.1 ∙ no_write))
caused (Err Read) ended reported sent after old new no_read no_write count short = (
  cut_short sent after (short refl),
  of_ending (λ e. (e.failed_reads ≡ 1) × (e.failed_writes ≡ 0)) ended reported new.reads new.writes
      (λ bytes. (count.0 ∙ ap (λ n. n + 1) no_read, count.1 ∙ no_write)),
)
caused (Err Write) ended reported sent after old new no_read no_write count short =
    of_ending (λ e. (e.failed_reads ≡ 0) × (e.failed_writes ≡ 1)) ended reported new.reads new.writes
    (λ bytes. (count.0 ∙ no_read, count.1 ∙ ap (λ n. n + 1) no_write))
caused (Err Memory) ended reported sent after old new no_read no_write count short =
    of_ending (λ e. (e.failed_reads ≡ 0) × (e.failed_writes ≡ 0)) ended reported new.reads new.writes
    (λ bytes. (count.0 ∙ no_read, count.1 ∙ no_write))

-- ---- the listener

pub one_came : (old new : Option (List (List ℕ))) (v : Visit) → IsAccepted old new v.sent → AreAccepted old new (v ∷ [])
one_came None new v comes = tt
one_came (Some coming) new v comes =
    (comes.0 ∷ [], comes.1, comes.2, comes.3, ap (λ (o : Option (List ℕ)). o ∷ []) comes.4)

pub one_ended : (old new : Option (List Ending)) (failed : Bool) (reported sent : Option (List ℕ))
    (fault : Option DeskFault) (reads writes : ℕ)
    → IsClosed old new reported reads writes
    → AreClosed old new (record
    { office_failed = failed; sent = sent; ending = ending_reported old reported reads writes; fault = fault } ∷ [])
one_ended None new failed reported sent fault reads writes ends = ends
one_ended (Some ended) None failed reported sent fault reads writes ends = tt
one_ended (Some ended) (Some more) failed reported sent fault reads writes ends = (
  ending_with reads writes ends.0 ∷ [],
  ends.2,
  ap (λ (o : Option (List ℕ)). option_map (ending_with reads writes) o ∷ []) ends.1,
)
