-- What is known of a command that none of its tests refuses.
use Rattle.office_law.proofs.Common.{◌≡◌, Bool, true, false, List, [], ◌∷◌, ◌++◌, Option, Some, None, refl, sym, All}
use Rattle.office_law.proofs.Common.{flat_map, All-cons, All-nil, Test, first_refusal, Refusal, Reply, Net, Entries}
use Rattle.office_law.proofs.Common.{Outcome, Refusing, Changing, refused_or, unless, given_or}
use Rattle.std.proofs.lemmas.Option.{none-some}

-- no test of the list holds
abbrev pub NoneHolds : List (Test Refusal) → Type 0
NoneHolds [] = Unit {0}
NoneHolds (t ∷ ts) = (t.holds ≡ false) × NoneHolds ts

none_later : (b : Bool) (r : Refusal) (later : Option Refusal)
    → ◌≡◌ {A = Option Refusal} (elim b [ true ↦ Some r | false ↦ later ]) None
    → (b ≡ false) × (later ≡ None)
none_later true r later h = absurd (none-some r (sym h))
none_later false r later h = (refl, h)

-- without a first refusal no test holds
pub NoneHolds-from_none : (ts : List (Test Refusal)) → first_refusal ts ≡ None → NoneHolds ts
NoneHolds-from_none [] h = tt
NoneHolds-from_none (t ∷ ts) h = let w = none_later t.holds t.refusal (first_refusal ts) h in
    (w.0, NoneHolds-from_none ts w.1)

-- of the first tests, and of the later ones
pub NoneHolds-append : (ts us : List (Test Refusal)) → NoneHolds (ts ++ us) → NoneHolds ts × NoneHolds us
NoneHolds-append [] us h = (tt, h)
NoneHolds-append (t ∷ ts) us h = let w = NoneHolds-append ts us h.1 in ((h.0, w.0), w.1)

-- What an outcome leaves is so; a refusal leaves nothing.
abbrev pub Leaves : (Reply → Net → Entries → Type 0) → Outcome → Type 0
Leaves P (Refusing r) = Unit {0}
Leaves P (Changing r n e) = P r n e

module _ (P : Reply → Net → Entries → Type 0) where
  leaves_or : (o : Option Refusal) (out : Outcome) → (o ≡ None → Leaves P out) → Leaves P (refused_or o out)
  leaves_or None out h = h refl
  leaves_or (Some r) out h = tt

  pub leaves_unless : (ts : List (Test Refusal)) (out : Outcome) → (NoneHolds ts → Leaves P out)
      → Leaves P (unless ts out)
  leaves_unless ts out h = leaves_or (first_refusal ts) out (λ e. h (NoneHolds-from_none ts e))

  pub leaves_given : {A : Type 0} (r : Refusal) (o : Option A) (out : A → Outcome)
      → ((x : A) → o ≡ Some x → Leaves P (out x)) → Leaves P (given_or r o out)
  leaves_given r None out h = tt
  leaves_given r (Some x) out h = h x refl

-- where none of the tests of all items holds, none of each holds
pub each_passed : {A : Type 0} (tests : A → List (Test Refusal)) (xs : List A) → NoneHolds (flat_map tests xs)
    → All (λ x. NoneHolds (tests x)) xs
each_passed tests [] h = All-nil (λ x. NoneHolds (tests x))
each_passed tests (x ∷ xs) h =
    let parts = NoneHolds-append (tests x) (flat_map tests xs) h in
    All-cons (λ y. NoneHolds (tests y)) x xs parts.0 (each_passed tests xs parts.1)
