-- What is known of a command from what it results in.
use Rattle.office_law.proofs.Common.{◌≡◌, ◌⊎◌, ◌==◌, ℕ, Bool, true, false, List, [], ◌∷◌, Option, Some, None, inl, inr}
use Rattle.office_law.proofs.Common.{refl, sym, ap, eq-eqb, ◌∙◌, false≢true, Test, first_refusal, Refusal, Reply, Net}
use Rattle.office_law.proofs.Common.{Entries, Outcome, Refusing, Changing, refused_or, unless, given_or}
use Rattle.office_types.specs.Refusal.{refusal_number}
use Rattle.office_law.proofs.NoTestHolds.{NoneHolds, NoneHolds-from_none}

-- a refusal changes nothing
pub refusing_changing : (q : Refusal) (r : Reply) (n : Net) (e : Entries) → Refusing q ≡ Changing r n e → ⊥
refusing_changing q r n e h = cc

pub same_Changing : (q r : Reply) (m n : Net) (e f : Entries) → Changing q m e ≡ Changing r n f → (q ≡ r) × (m ≡ n)
    × (e ≡ f)
same_Changing q r m n e f h = (cc, cc, cc)

changing_or : (o : Option Refusal) (out : Outcome) (r : Reply) (n : Net) (e : Entries)
    → refused_or o out ≡ Changing r n e → (o ≡ None) × (out ≡ Changing r n e)
changing_or None out r n e h = (refl, h)
changing_or (Some q) out r n e h = absurd (refusing_changing q r n e h)

-- what changes something passed its tests
pub passed : (ts : List (Test Refusal)) (out : Outcome) (r : Reply) (n : Net) (e : Entries)
    → unless ts out ≡ Changing r n e → NoneHolds ts × (out ≡ Changing r n e)
passed ts out r n e h = let w = changing_or (first_refusal ts) out r n e h in (NoneHolds-from_none ts w.0, w.1)

-- and found what it looked for
pub given : {A : Type 0} (q : Refusal) (o : Option A) (out : A → Outcome) (r : Reply) (n : Net) (e : Entries)
    → given_or q o out ≡ Changing r n e
    → (x : A) × (o ≡ Some x) × (out x ≡ Changing r n e)
given q None out r n e h = absurd (refusing_changing q r n e h)
given q (Some x) out r n e h = (x, refl, h)

-- A test of the list is the first that holds, and refuses so.
abbrev pub RefusedBy : List (Test Refusal) → Refusal → Type 0
RefusedBy [] r = ⊥
RefusedBy (t ∷ ts) r = ((t.holds ≡ true) × (t.refusal ≡ r)) ⊎ ((t.holds ≡ false) × RefusedBy ts r)

by_test : (t : Test Refusal) (ts : List (Test Refusal)) (r : Refusal) (b : Bool) → t.holds ≡ b
    → (first_refusal ts ≡ Some r → RefusedBy ts r)
    → ◌≡◌ {A = Option Refusal} (elim b [ true ↦ Some t.refusal | false ↦ first_refusal ts ]) (Some r)
    → RefusedBy (t ∷ ts) r
by_test t ts r true e later k = inl (e, let same : t.refusal ≡ r = cc in same)
by_test t ts r false e later k = inr (e, later k)

refused_by : (ts : List (Test Refusal)) (r : Refusal) → first_refusal ts ≡ Some r → RefusedBy ts r
refused_by [] r h = absurd cc
refused_by (t ∷ ts) r h = by_test t ts r t.holds refl (refused_by ts r) h

refusing_or : (ts : List (Test Refusal)) (o : Option Refusal) (out : Outcome) (r : Refusal) → first_refusal ts ≡ o
    → refused_or o out ≡ Refusing r
    → RefusedBy ts r ⊎ (NoneHolds ts × (out ≡ Refusing r))
refusing_or ts None out r e h = inr (NoneHolds-from_none ts e, h)
refusing_or ts (Some q) out r e h = inl (refused_by ts r (e ∙ some_same q r h))
  where
    some_same : (a b : Refusal) → Refusing a ≡ Refusing b → ◌≡◌ {A = Option Refusal} (Some a) (Some b)
    some_same a b k = cc

-- what is refused was refused by a test, or after all of them
pub refused : (ts : List (Test Refusal)) (out : Outcome) (r : Refusal) → unless ts out ≡ Refusing r → RefusedBy ts r
    ⊎ (NoneHolds ts × (out ≡ Refusing r))
refused ts out r h = refusing_or ts (first_refusal ts) out r refl h

-- the tests that refuse with this number
abbrev pub those : ℕ → List (Test Refusal) → List (Test Refusal)
those n [] = []
those n (t ∷ ts) = elim (refusal_number t.refusal == n) [ true ↦ t ∷ those n ts | false ↦ those n ts ]

-- one of them refused
pub refused_by_those : (ts : List (Test Refusal)) (r : Refusal) → RefusedBy ts r
    → RefusedBy (those (refusal_number r) ts) r
refused_by_those [] r h = h
refused_by_those (t ∷ ts) r h = by_number (refusal_number t.refusal == refusal_number r) refl (refused_by_those ts r) h
  where
    by_number : (b : Bool) → refusal_number t.refusal == refusal_number r ≡ b
        → (RefusedBy ts r → RefusedBy (those (refusal_number r) ts) r) → RefusedBy (t ∷ ts) r
        → RefusedBy (elim b [ true ↦ t ∷ those (refusal_number r) ts | false ↦ those (refusal_number r) ts ]) r
    by_number true e later (inl here) = inl here
    by_number true e later (inr k) = inr (k.0, later k.1)
    by_number false e later (inl here) =
        absurd (false≢true (sym e ∙ eq-eqb (refusal_number t.refusal) (refusal_number r) (ap refusal_number here.1)))
    by_number false e later (inr k) = later k.1
