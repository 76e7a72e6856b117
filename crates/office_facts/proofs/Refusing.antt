-- The first refusal of a list of tests, from what its parts say.
use Rattle.std.proofs.Common.{◌≡◌, Bool, true, false, List, [], ◌∷◌, ◌++◌, Option, Some, None, refl, ap, ◌∙◌}
use Rattle.std.proofs.lemmas.Bool.{false≢true, true≢false}
use Rattle.base.specs.Refusing.{Test, first_refusal}
use Rattle.office_types.specs.declared.refusal.Refusal.{Refusal}
use Rattle.office_rules.specs.Outcome.{when}

-- the refusal, if there is one, and else the later one
abbrev or_later : Option Refusal → Option Refusal → Option Refusal
or_later (Some r) later = Some r
or_later None later = later

or_later-test : (b : Bool) (r : Refusal) (o later : Option Refusal)
    → ◌≡◌ {A = Option Refusal} (elim b [ true ↦ Some r | false ↦ or_later o later ])
    (or_later (elim b [ true ↦ Some r | false ↦ o ]) later)
or_later-test true r o later = refl
or_later-test false r o later = refl

first_refusal-append : (ts us : List (Test Refusal))
    → first_refusal (ts ++ us) ≡ or_later (first_refusal ts) (first_refusal us)
first_refusal-append [] us = refl
first_refusal-append (t ∷ ts) us =
    ap (λ (o : Option Refusal). elim t.holds [ true ↦ Some t.refusal | false ↦ o ]) (first_refusal-append ts us)
    ∙ or_later-test t.holds t.refusal (first_refusal ts) (first_refusal us)

-- a test that doesn't hold
pub first-passed : (b : Bool) (r : Refusal) (ts : List (Test Refusal)) (o : Option Refusal) → b ≡ false
    → first_refusal ts ≡ o → first_refusal (when b r ∷ ts) ≡ o
first-passed true r ts o h later = absurd (true≢false h)
first-passed false r ts o h later = later

-- a test that holds
pub first-held : (b : Bool) (r : Refusal) (ts : List (Test Refusal)) → b ≡ true → first_refusal (when b r ∷ ts) ≡ Some r
first-held true r ts h = refl
first-held false r ts h = absurd (false≢true h)

-- tests of which one holds
pub first-refused : (ts us : List (Test Refusal)) (r : Refusal) → first_refusal ts ≡ Some r
    → first_refusal (ts ++ us) ≡ Some r
first-refused ts us r h = first_refusal-append ts us ∙ ap (λ (o : Option Refusal). or_later o (first_refusal us)) h

-- tests of which none holds
pub first-later : (ts us : List (Test Refusal)) (o : Option Refusal) → first_refusal ts ≡ None → first_refusal us ≡ o
    → first_refusal (ts ++ us) ≡ o
first-later ts us o none later = first_refusal-append ts us ∙ ap (λ (p : Option Refusal). or_later p (first_refusal us))
    none ∙ later
