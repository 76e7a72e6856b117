-- One connection after others.
use Rattle.desk.proofs.Common.{◌≡◌, ◌∙◌, ◌⊎◌, ℕ, List, [], ◌∷◌, ◌++◌, Bool, true, false, Option, None, Some, Result, Ok}
use Rattle.desk.proofs.Common.{Err, inl, inr, refl, sym, ap, subst, append-nil, All-nil, All-push, IsTrue, IsFalse}
use Rattle.desk.proofs.Common.{State, Trees, Answered, Holding, Leaves, AppendsFront}
use Rattle.std.proofs.Common.{map, append_assoc, take, drop, codes}
use Rattle.std.proofs.KnownBytes.{Appends-kept, Appends-nil}
use Rattle.std.proofs.lemmas.List.{map-append, take-append-drop}
use Rattle.std.proofs.lemmas.List.Elements.{All-head, Contains-append_left, Contains-push}
use Rattle.std.specs.Io.KnownBytes.{WriteAppends}
use Rattle.desk.specs.Serving.{AreAccepted, AreClosed, Ending, FailsOnce, Follows, GoesOn, HasCause, IsDeclined}
use Rattle.desk.specs.Serving.{KeepsWithOneVisit, Leads, HasServedAll, SaysFailure, Visit}
use Rattle.desk.specs.Visits.{HasNoVisit, HasVisits}
use Rattle.desk.specs.declared.listener.Listener.{Ghosts}
use Rattle.desk.proofs.Visits.{LeavesNow, decides, left_now, legal_of, not_both, ranged_of}

follows_then : (h : List Answered) (vs : List Visit) (v : Visit) (h1 h2 : List Answered) → Follows h vs h1
    → Leads h1 v h2 → Follows h (vs ++ v ∷ []) h2
follows_then h [] v h1 h2 is leads = (h2, subst (λ (k : List Answered). Leads k v h2) is leads, refl)
follows_then h (w ∷ vs) v h1 h2 f leads = (f.0, f.1, follows_then f.0 vs v h1 h2 f.2 leads)

fails_then : (before : Bool) (vs : List Visit) (v : Visit) (now next : Bool) → FailsOnce before vs now
    → v.office_failed ≡ now → (IsTrue now → IsTrue next)
    → FailsOnce before (vs ++ v ∷ []) next
fails_then before [] v now next is came stays = (came ∙ is, next, λ failed. stays (subst IsTrue (sym is) failed), refl)
fails_then before (w ∷ vs) v now next f came stays = (f.0, f.1, f.2, fails_then f.1 vs v now next f.3 came stays)

-- one write took a beginning of the text
written_front : {E : Type 0} (old new : Option (List ℕ)) (call : Result ℕ E) (text : List ℕ)
    → WriteAppends old new call text → AppendsFront old new text
written_front old new (Ok n) text appends = (take n text, drop n text, sym (take-append-drop n text), appends)
written_front old new (Err e) text keeps = ([], text, refl, Appends-kept old old new [] (Appends-nil old) keeps)

-- that the office fails is printed by one write
pub says_by : {E : Type 0} (had has : Bool) (old new : Option (List ℕ)) (call : Result ℕ E) → has ≡ true → had ≡ false
    → WriteAppends old new call (codes "lost 72\n")
    → SaysFailure had has old new
says_by false true old new call fails sound writes = written_front old new call (codes "lost 72\n") writes
says_by false false old new call fails sound writes = cc
says_by true has old new call fails sound writes = cc

-- an office that has failed has failed after later connections too
stays_failed : (before : Bool) (vs : List Visit) (after : Bool) → FailsOnce before vs after → IsTrue before
    → IsTrue after
stays_failed before [] after is failed = subst IsTrue (sym is) failed
stays_failed before (w ∷ vs) after f failed = stays_failed f.1 vs after f.3 (f.2 failed)

-- that the office fails is printed once
says_on : (a b c : Bool) (first mid last : Option (List ℕ)) → SaysFailure a b first mid → SaysFailure b c mid last
    → (IsTrue a → IsTrue b) → (IsTrue b → IsTrue c) → SaysFailure a c first last
says_on true true c first mid last x y ab bc = y ∙ x
says_on true false c first mid last x y ab bc = absurd (not_both false (ab refl) refl)
says_on false true true first mid last x y ab bc =
    subst (λ (o : Option (List ℕ)). SaysFailure false true first o) (sym y) x
says_on false true false first mid last x y ab bc = absurd (not_both false (bc refl) refl)
says_on false false true first mid last x y ab bc = subst (λ (o : Option (List ℕ)). SaysFailure false true o last) x y
says_on false false false first mid last x y ab bc = y ∙ x

pub says_then : (a b c : Bool) (vs : List Visit) (first mid last : Option (List ℕ)) → FailsOnce a vs b
    → SaysFailure a b first mid → SaysFailure b c mid last → (IsTrue b → IsTrue c) → SaysFailure a c first last
says_then a b c vs first mid last fails x y stays = says_on a b c first mid last x y (stays_failed a vs b fails) stays

pub says_nothing : (b : Bool) (reported : Option (List ℕ)) → SaysFailure b b reported reported
says_nothing true reported = refl
says_nothing false reported = refl

-- nothing was served yet
pub served_none : (h : List Answered) (failed : Bool) (s : State) → LeavesNow s → Holding h s
    → HasServedAll h [] failed s
served_none h failed s law holding = record {
  after = h;
  follows = refl;
  legal = legal_of h s holding;
  in_range = ranged_of h s holding;
  is_open = λ sound. holding.is_open;
  held = λ opened. holding;
  left = λ db may. inl (left_now h s law holding db may);
}

-- one of the connections is one of more of them
still_one : (h : List Answered) (vs : List Visit) (v : Visit) (db : Trees) → KeepsWithOneVisit h vs db
    → KeepsWithOneVisit h (vs ++ v ∷ []) db
still_one h vs v db (inl keeps) = inl keeps
still_one h vs v db (inr one) = inr (one.0, Contains-append_left vs (v ∷ []) one.0 one.1, one.2)

-- what a connection is served on, and what becomes of it
pub record Turn (failed_old : Bool) (old : State) (v : Visit) (failed_new : Bool) (new : State) : Type 1 where
  pub before : v.office_failed ≡ failed_old
  pub refused : IsTrue failed_old → (failed_new ≡ failed_old) × (new ≡ old)
  pub leads : (h : List Answered) → Holding h old → GoesOn h v new
  pub opened : (h : List Answered) → Holding h old → IsFalse failed_new → IsTrue new.is_open

served_on : (h : List Answered) (vs : List Visit) (v : Visit) (failed_old : Bool) (old : State) (failed_new : Bool)
    (new : State) → Turn failed_old old v failed_new new
    → HasServedAll h vs failed_old old → IsTrue failed_old ⊎ IsFalse failed_old
    → HasServedAll h (vs ++ v ∷ []) failed_new new
served_on h vs v failed_old old failed_new new turn r (inl failed) =
    let same = turn.refused failed in
    let not_sound : IsFalse failed_new → ⊥ = λ sound. not_both failed_old failed (subst IsFalse same.0 sound) in
    record {
      after = r.after;
      follows = follows_then h vs v r.after r.after r.follows (inl (subst IsTrue (sym turn.before) failed, refl));
      legal = r.legal;
      in_range = r.in_range;
      is_open = λ sound. absurd (not_sound sound);
      held = subst (λ (t : State). IsTrue t.is_open → Holding r.after t) (sym same.1) r.held;
      left = subst (λ (t : State). Leaves (KeepsWithOneVisit r.after (vs ++ v ∷ [])) t) (sym same.1)
          (λ db may. still_one r.after vs v db (r.left db may));
    }
served_on h vs v failed_old old failed_new new turn r (inr sound) =
    let holding = r.held (r.is_open sound) in
    let led = turn.leads r.after holding in
    record {
      after = led.after;
      follows = follows_then h vs v r.after led.after r.follows
          (inr (subst IsFalse (sym turn.before) sound, led.leads));
      legal = led.legal;
      in_range = led.in_range;
      is_open = turn.opened r.after holding;
      held = led.held;
      left = λ db may. elim (led.left db may) [ inl keeps ↦ inl keeps | inr one ↦ inr (v, Contains-push vs v, one) ];
    }

-- one more connection was served
pub served_then : (h : List Answered) (vs : List Visit) (v : Visit) (failed_old : Bool) (old : State)
    (failed_new : Bool) (new : State)
    → Turn failed_old old v failed_new new → HasServedAll h vs failed_old old
    → HasServedAll h (vs ++ v ∷ []) failed_new new
served_then h vs v failed_old old failed_new new turn ran =
    served_on h vs v failed_old old failed_new new turn ran (decides failed_old)

reported_then : {T : Type 0} (f : Visit → Option T) (vs : List Visit) (v : Visit) (xs ys : List T)
    → map f vs ≡ map Some xs → map f (v ∷ []) ≡ map Some ys
    → map f (vs ++ v ∷ []) ≡ map Some (xs ++ ys)
reported_then {T} f vs v xs ys first last =
    map-append f vs (v ∷ []) ∙ ap (λ (l : List (Option T)). l ++ map f (v ∷ [])) first
    ∙ ap (λ (l : List (Option T)). map Some xs ++ l) last ∙ sym (map-append Some xs ys)

came_none : (old : Option (List (List ℕ))) → AreAccepted old old []
came_none None = tt
came_none (Some coming) = ([], coming, refl, refl, refl)

came_then : (a b c : Option (List (List ℕ))) (vs : List Visit) (v : Visit) → AreAccepted a b vs
    → AreAccepted b c (v ∷ []) → AreAccepted a c (vs ++ v ∷ [])
came_then None b c vs v x y = tt
came_then (Some coming) b c vs v x y =
    let z = subst (λ (o : Option (List (List ℕ))). AreAccepted o c (v ∷ [])) x.3 y in (
      x.0 ++ z.0,
      z.1,
      x.2 ∙ ap (λ (l : List (List ℕ)). x.0 ++ l) z.2 ∙ sym (append_assoc x.0 z.0 z.1),
      z.3,
      reported_then (λ w. w.sent) vs v x.0 z.0 x.4 z.4,
    )

ended_none : (old : Option (List Ending)) → AreClosed old old []
ended_none None = refl
ended_none (Some ended) = ([], sym (append-nil ended), refl)

ended_then : (a b c : Option (List Ending)) (vs : List Visit) (v : Visit) → AreClosed a b vs → AreClosed b c (v ∷ [])
    → AreClosed a c (vs ++ v ∷ [])
ended_then None b c vs v x y = subst (λ (o : Option (List Ending)). AreClosed o c (v ∷ [])) x y
ended_then (Some ended) None c vs v x y = subst (λ (o : Option (List Ending)). AreClosed (Some ended) o (vs ++ v ∷ []))
    (sym y) tt
ended_then (Some ended) (Some more) None vs v x y = tt
ended_then (Some ended) (Some more) (Some most) vs v x y = (
  x.0 ++ y.0,
  y.1 ∙ ap (λ (l : List Ending). l ++ y.0) x.1 ∙ append_assoc ended x.0 y.0,
  reported_then (λ w. w.ending) vs v x.0 y.0 x.2 y.2,
)

-- ---- what a listener has had

pub visits_none : {L Q A : Type 0} (listener : Ghosts L Q A) (now : L) (failed : Bool)
    → HasVisits listener now now failed failed []
visits_none listener now failed = record {
  accepted = came_none (listener.coming now);
  closed = ended_none (listener.ended now);
  caused = All-nil HasCause;
  fails_once = refl;
  declined = All-nil IsDeclined;
}

-- one more connection came
pub visits_then : {L Q A : Type 0} (listener : Ghosts L Q A) (first mid last : L) (a b c : Bool) (vs : List Visit)
    (v : Visit)
    → HasVisits listener first mid a b vs → HasVisits listener mid last b c (v ∷ [])
    → HasVisits listener first last a c (vs ++ v ∷ [])
visits_then listener first mid last a b c vs v had has =
    let once = has.fails_once in
    let stays : IsTrue b → IsTrue c = λ failed. subst IsTrue (sym once.3) (once.2 failed) in
    record {
      accepted = came_then _ _ _ vs v had.accepted has.accepted;
      closed = ended_then _ _ _ vs v had.closed has.closed;
      caused = All-push HasCause vs v had.caused (All-head HasCause v [] has.caused);
      fails_once = fails_then a vs v b c had.fails_once once.0 stays;
      declined = All-push IsDeclined vs v had.declined (All-head IsDeclined v [] has.declined);
    }

-- the office may have failed since the connection
pub visit_still : {L Q A : Type 0} (listener : Ghosts L Q A) (first last : L) (a b c : Bool) (v : Visit)
    → HasVisits listener first last a b (v ∷ []) → (IsTrue b → IsTrue c)
    → HasVisits listener first last a c (v ∷ [])
visit_still listener first last a b c v had stays =
    let once = had.fails_once in
    record {
      accepted = had.accepted;
      closed = had.closed;
      caused = had.caused;
      fails_once = (once.0, c, λ failed. stays (subst IsTrue (sym once.3) (once.2 failed)), refl);
      declined = had.declined;
    }

-- none came any more, and the office is as it was
pub visits_still : {L Q A : Type 0} (listener : Ghosts L Q A) (first mid last : L) (a b c : Bool) (vs : List Visit)
    → HasVisits listener first mid a b vs → HasNoVisit listener mid last → c ≡ b → HasVisits listener first last a c vs
visits_still listener first mid last a b c vs had none same = record {
  accepted = subst (λ (o : Option (List (List ℕ))). AreAccepted (listener.coming first) o vs) (sym none.coming)
      had.accepted;
  closed = subst (λ (o : Option (List Ending)). AreClosed (listener.ended first) o vs) (sym none.ended) had.closed;
  caused = had.caused;
  fails_once = subst (λ (failed : Bool). FailsOnce a vs failed) (sym same) had.fails_once;
  declined = had.declined;
}
