-- Arrivals with their answers, and the histories that go on with them.
use Rattle.canoffice_cli.proofs.Common.{◌≡◌, ◌⊎◌, ◌+◌, ◌≤◌, ◌<◌, ℕ, zero, suc, inl, inr, List, [], ◌∷◌, ◌++◌, length}
use Rattle.canoffice_cli.proofs.Common.{take, refl, sym, ap, subst, ◌∙◌, arith, append_assoc, append-nil, IsTrue}
use Rattle.canoffice_cli.proofs.Common.{Database, State, Profile, statistics_of, Answer, Arrival, Answered}
use Rattle.canoffice_cli.proofs.Common.{IsLegalHistory, Holding, HasNone, HoldingInSomeForm, HoldingOlder}
use Rattle.canoffice_cli.proofs.Common.{office_in_form}
use Rattle.sqlite.specs.Tree.{Trees}
use Rattle.office_rules.specs.Profile.{One, Two}
use Rattle.office_history.specs.Answering.{reported}
use Rattle.office_history.specs.Laws.{HistoriesGrow}
use Rattle.store_migrate.specs.InForm.{KeepsAs}
use Rattle.store_migrate.specs.declared.forms.SchemaForm.{SchemaForm}
use Rattle.store_migrate.specs.declared.forms.SchemaForm.TheVariants.{All, Analyzed, Bodies, Foreign, Rows}
use Rattle.store.specs.Holding.{Keeps}
use Rattle.store.specs.Opening.{HasOffice, KeepsInSomeForm, KeepsOlder}
use Rattle.store.proofs.TablesInForm.{has_office}
use Rattle.canoffice_cli.specs.Answered.{answered_with}
use Rattle.canoffice_cli.specs.Databases.{Begins}

-- one more arrival, with its answer
reported_more : (xs : List Arrival) (ys : List Answer) (a : Arrival) (answer : Answer) → length ys ≡ length xs
    → answered_with (xs ++ a ∷ []) (ys ++ answer ∷ []) ≡ answered_with xs ys ++ reported a answer ∷ []
reported_more [] [] a answer each = refl
reported_more [] (y ∷ ys) a answer each = absurd (omega (arith, each))
reported_more (x ∷ xs) [] a answer each = absurd (omega (arith, each))
reported_more (x ∷ xs) (y ∷ ys) a answer each =
    ap (◌∷◌ (reported x y)) (reported_more xs ys a answer (omega (arith, each)))

-- only as many arrivals count as there are answers
reported_first : (xs : List Arrival) (ys : List Answer) → answered_with (take (length ys) xs) ys ≡ answered_with xs ys
reported_first [] [] = refl
reported_first (x ∷ xs) [] = refl
reported_first [] (y ∷ ys) = refl
reported_first (x ∷ xs) (y ∷ ys) = ap (◌∷◌ (reported x y)) (reported_first xs ys)

-- no answer
pub reported_none : (xs : List Arrival) → answered_with xs [] ≡ []
reported_none [] = refl
reported_none (x ∷ xs) = refl

-- the history, with the answers so far, and one more
pub history_more : (h : List Answered) (xs : List Arrival) (ys : List Answer) (a : Arrival) (answer : Answer)
    → length ys ≡ length xs
    → (h ++ answered_with xs ys) ++ reported a answer ∷ [] ≡ h ++ answered_with (xs ++ a ∷ []) (ys ++ answer ∷ [])
history_more h xs ys a answer each = append_assoc h (answered_with xs ys) (reported a answer ∷ [])
    ∙ ap (λ l. h ++ l) (sym (reported_more xs ys a answer each))

-- as many answers as arrivals that came
pub history_so_far : (h : List Answered) (xs : List Arrival) (ys : List Answer) (at : ℕ) → length ys ≡ at
    → h ++ answered_with (take at xs) ys ≡ h ++ answered_with xs ys
history_so_far h xs ys at each =
    ap (λ l. h ++ l) (ap (λ n. answered_with (take n xs) ys) (sym each) ∙ reported_first xs ys)

-- nothing was answered yet
pub history_at_first : (h : List Answered) (xs : List Arrival) (ys : List Answer) → ys ≡ []
    → h ≡ h ++ answered_with xs ys
history_at_first h xs ys none = sym (ap (λ l. h ++ l) (ap (answered_with xs) none ∙ reported_none xs) ∙ append-nil h)

-- what tables hold is a legal history
pub held_is_legal : (h : List Answered) (s : State) → Holding h s → IsLegalHistory h
held_is_legal h s holding = (holding.keeps.holds.holds.office, holding.keeps.holds.holds.legal)

-- in whatever form
form_is_legal : (p : Profile) (form : SchemaForm) (h : List Answered) (db : Trees) → KeepsAs p form h db
    → IsLegalHistory h
form_is_legal One Bodies h db keeps = (keeps.holds.holds.office, keeps.holds.holds.legal)
form_is_legal One Rows h db keeps = (keeps.holds.holds.office, keeps.holds.holds.legal)
form_is_legal One All h db keeps = (keeps.holds.holds.office, keeps.holds.holds.legal)
form_is_legal One Analyzed h db keeps = (keeps.holds.holds.office, keeps.holds.holds.legal)
form_is_legal One Foreign h db keeps = absurd keeps.holds
form_is_legal Two Bodies h db keeps = absurd keeps.holds
form_is_legal Two Rows h db keeps = (keeps.holds.holds.office, keeps.holds.holds.legal)
form_is_legal Two All h db keeps = (keeps.holds.holds.office, keeps.holds.holds.legal)
form_is_legal Two Analyzed h db keeps = (keeps.holds.holds.office, keeps.holds.holds.legal)
form_is_legal Two Foreign h db keeps = absurd keeps.holds

-- the history with which an office begins is a legal one
pub begun_is_legal : HistoriesGrow → (h : List Answered) (s : State) → Begins h s → IsLegalHistory h
begun_is_legal grow h s (inl holding) = form_is_legal holding.keeps.0 holding.keeps.1 h s.now.trees holding.keeps.2
begun_is_legal grow h s (inr new) = subst IsLegalHistory (sym new.0) (_, grow.begins)

-- an office that was opened holds the history with which it begins
pub begins_held : (old new : State) → (HasNone old → Holding [] new)
    → ((h : List Answered) → HoldingInSomeForm h old → Holding h new) → (h : List Answered) → Begins h old
    → Holding h new
begins_held old new made held h (inl holding) = held h holding
begins_held old new made held h (inr none) = subst (λ k. Holding k new) (sym none.0) (made none.1)

-- an office that was opened shows the statistics that there were
pub begins_in_form : (h : List Answered) (s : State) → Begins h s → HoldingInSomeForm h s ⊎ HasNone s
begins_in_form h s (inl holding) = inl holding
begins_in_form h s (inr none) = inr none.1

-- it begins on the tables of an office of some time, or on none
pub begins_on : (h : List Answered) (s : State) → Begins h s → HasOffice s ⊎ HasNone s
begins_on h s (inl holding) = inl (office_in_form h s holding)
begins_on h s (inr none) = inr none.1

pub still_rows : (old new : State) → (IsTrue old.is_open → old.now ≡ old.committed)
    → (IsTrue new.is_open → new.now ≡ new.committed)
    → (HasOffice old ⊎ HasNone old → IsTrue new.is_open → new.committed ≡ old.committed) → IsTrue new.is_open
    → (h : List Answered) → HoldingInSomeForm h old ⊎ HasNone old → statistics_of new.now ≡ statistics_of old.now
still_rows old new settled_old settled_new back opened h (inl holding) =
    ap statistics_of (settled_new opened ∙ back (inl (office_in_form h old holding)) opened
    ∙ sym (settled_old holding.is_open))
still_rows old new settled_old settled_new back opened h (inr none) =
    ap statistics_of (settled_new opened ∙ back (inr none) opened ∙ sym (settled_old none.is_open))

-- where opening is lost, what was last committed is shown still
pub still_same : (old new : State) → (IsTrue old.is_open → old.now ≡ old.committed)
    → (IsTrue new.is_open → new.now ≡ new.committed)
    → (HasOffice old ⊎ HasNone old → IsTrue new.is_open → new.committed ≡ old.committed) → HasOffice old ⊎ HasNone old
    → IsTrue new.is_open → (new.now ≡ old.now) × (new.committed ≡ old.committed)
still_same old new settled_old settled_new back (inl office) opened =
    let same = back (inl office) opened in (settled_new opened ∙ same ∙ sym (settled_old office.is_open), same)
still_same old new settled_old settled_new back (inr none) opened =
    let same = back (inr none) opened in (settled_new opened ∙ same ∙ sym (settled_old none.is_open), same)

-- so that holds what was held, in whatever form
pub same_in_form : (h : List Answered) (old new : State) → HoldingInSomeForm h old → IsTrue new.is_open
    → new.now ≡ old.now → HoldingInSomeForm h new
same_in_form h old new holding opened same = record {
  is_open = opened;
  keeps = subst (λ (db : Database). KeepsInSomeForm h db.trees) (sym same) holding.keeps;
}

pub same_older : (h : List Answered) (old new : State) → HoldingOlder h old → IsTrue new.is_open → new.now ≡ old.now
    → HoldingOlder h new
same_older h old new holding opened same = record {
  is_open = opened;
  keeps = subst (λ (db : Database). KeepsOlder h db.trees) (sym same) holding.keeps;
}

pub still_held : (old new : State) → (IsTrue old.is_open → old.now ≡ old.committed)
    → (IsTrue new.is_open → new.now ≡ new.committed)
    → (HasOffice old → IsTrue new.is_open → new.committed ≡ old.committed) → IsTrue new.is_open → (h : List Answered)
    → Holding h old → Holding h new
still_held old new settled_old settled_new back opened h holding =
    let office : HasOffice old = has_office old (record { is_open = holding.is_open; office = holding.keeps.office }) in
    let same : new.now ≡ old.now = settled_new opened ∙ back office opened ∙ sym (settled_old holding.is_open) in
    record { is_open = opened; keeps = subst (λ db. Keeps h db.trees) (sym same) holding.keeps }

pub still_in_form : (old new : State) → (IsTrue old.is_open → old.now ≡ old.committed)
    → (IsTrue new.is_open → new.now ≡ new.committed)
    → (HasOffice old → IsTrue new.is_open → new.committed ≡ old.committed) → IsTrue new.is_open → (h : List Answered)
    → HoldingInSomeForm h old → HoldingInSomeForm h new
still_in_form old new settled_old settled_new back opened h holding =
    same_in_form h old new holding opened
    (settled_new opened ∙ back (office_in_form h old holding) opened ∙ sym (settled_old holding.is_open))

length_first : (k : ℕ) (xs : List Arrival) → k ≤ length xs → length (take k xs) ≡ k
length_first zero xs within = refl
length_first (suc k) [] within = absurd (omega (arith, within))
length_first (suc k) (x ∷ xs) within = ap suc (length_first k xs (omega (arith, within)))

-- one arrival more was answered
pub reported_next : (P : List Answered → Type 0) (h : List Answered) (arrivals : List Arrival) (at : ℕ)
    (ys ys2 : List Answer) (item : Arrival) (answer : Answer) → at < length arrivals
    → take (at + 1) arrivals ≡ take at arrivals ++ item ∷ [] → length ys ≡ at → ys2 ≡ ys ++ answer ∷ []
    → P ((h ++ answered_with (take at arrivals) ys) ++ reported item answer ∷ [])
    → P (h ++ answered_with (take (at + 1) arrivals) ys2)
reported_next P h arrivals at ys ys2 item answer within next each more holds =
    let first : length ys ≡ length (take at arrivals) = each ∙ sym (length_first at arrivals (omega (arith, within))) in
    subst (λ xs. P (h ++ answered_with xs ys2)) (sym next)
    (subst (λ l. P (h ++ answered_with (take at arrivals ++ item ∷ []) l)) (sym more)
    (subst P (history_more h (take at arrivals) ys item answer first) holds))
