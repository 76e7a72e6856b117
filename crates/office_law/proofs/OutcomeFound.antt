-- Where no test of a command's list holds, what its outcome looks for is there.
use Rattle.office_law.proofs.Common.{◌≡◌, ℕ, Bool, false, List, ◌∷◌, Option, Some, None, refl, sym, is_none, false≢true}
use Rattle.office_law.proofs.Common.{Test, first_refusal, Refusal, Net, Outcome, Refusing, Changing, requested_of}
use Rattle.office_law.proofs.Common.{given_or, on_net, refused_or, unless, when}
use Rattle.office_types.specs.declared.refusal.Refusal.TheVariants as no
use Rattle.office_law.specs.Deciding.{IsDecidedBy}
use Rattle.office_law.proofs.NoTestHolds.{NoneHolds, NoneHolds-from_none}

abbrev pub IsAnswered : Outcome → Type 0
IsAnswered (Refusing r) = ⊥
IsAnswered (Changing r n e) = Unit {0}

answered_decides : (out : Outcome) → IsAnswered out → IsDecidedBy None out
answered_decides (Refusing r) h = absurd h
answered_decides (Changing r n e) h = refl

decided_or : (o : Option Refusal) (out : Outcome) → (o ≡ None → IsAnswered out) → IsDecidedBy o (refused_or o out)
decided_or (Some r) out h = refl
decided_or None out h = answered_decides out (h refl)

pub decided_unless : (ts : List (Test Refusal)) (out : Outcome) → (NoneHolds ts → IsAnswered out)
    → IsDecidedBy (first_refusal ts) (unless ts out)
decided_unless ts out h = decided_or (first_refusal ts) out (λ e. h (NoneHolds-from_none ts e))

pub answered_given : {A : Type 0} (r : Refusal) (o : Option A) (out : A → Outcome) → is_none o ≡ false
    → ((x : A) → IsAnswered (out x)) → IsAnswered (given_or r o out)
answered_given r None out there h = absurd (false≢true (sym there))
answered_given r (Some x) out there h = h x

-- a thing that was tested further
pub answered_requested : {A : Type 0} (r : Refusal) (o : Option A) (ts : A → List (Test Refusal)) (out : A → Outcome)
    → is_none o ≡ false → NoneHolds (requested_of o ts)
    → ((x : A) → NoneHolds (ts x) → IsAnswered (out x)) → IsAnswered (given_or r o out)
answered_requested r None ts out there none h = absurd (false≢true (sym there))
answered_requested r (Some x) ts out there none h = h x none

pub decided_net : (ts : Net → List (Test Refusal)) (out : Net → Outcome) (net : Option Net)
    → ((n : Net) → NoneHolds (ts n) → IsAnswered (out n))
    → IsDecidedBy (first_refusal (on_net net ts)) (unless (on_net net ts) (given_or no.NoNet net out))
decided_net ts out net h =
    decided_unless (on_net net ts) (given_or no.NoNet net out)
    (λ none. answered_requested no.NoNet net ts out none.0 none.1 h)

-- a command of the office alone
pub decided_office : (b : Bool) (ts : Net → List (Test Refusal)) (out : Net → Outcome) (net : Option Net)
    → ((n : Net) → NoneHolds (ts n) → IsAnswered (out n))
    → IsDecidedBy (first_refusal (when b no.NotOffice ∷ on_net net ts))
    (unless (when b no.NotOffice ∷ on_net net ts) (given_or no.NoNet net out))
decided_office b ts out net h =
    decided_unless (when b no.NotOffice ∷ on_net net ts) (given_or no.NoNet net out)
    (λ none. answered_requested no.NoNet net ts out none.1.0 none.1.1 h)

-- the wanted number, or the least one where none is wanted
pub chosen_there : (w x : Option ℕ) (ts : ℕ → List (Test Refusal)) (us : List (Test Refusal))
    → (NoneHolds us → is_none (elim w [ Some n ↦ Some n | None ↦ x ]) ≡ false)
    → NoneHolds (elim w [ Some n ↦ ts n | None ↦ us ]) → is_none (elim w [ Some n ↦ Some n | None ↦ x ]) ≡ false
chosen_there (Some n) x ts us h none = refl
chosen_there None x ts us h none = h none

-- an outcome that is refused anyway
pub refuses : (o : Option Refusal) (r : Refusal) → (s : Refusal) × (refused_or o (Refusing r) ≡ Refusing s)
refuses None r = (r, refl)
refuses (Some s) r = (s, refl)
