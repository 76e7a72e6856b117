-- Tests that refuse a command alone, and no part of a bundle.
use Rattle.office_law.proofs.Common.{ℕ, List, [], ◌∷◌, ◌++◌, Option, Some, None, Bool, true, false, flat_map}
use Rattle.office_law.proofs.Common.{if◌then◌else◌, Test, Refusal, LiveMessage, Net, on_net, requested_of, on_message}
use Rattle.office_types.specs.declared.refusal.Refusal.TheVariants as no
use Rattle.office_rules.specs.Facts.{MessageFacts}

-- no refusal of a bundle's part
abbrev pub IsSingle : Refusal → Type 0
IsSingle (no.BundleRefused f) = ⊥
IsSingle why = Unit {0}

abbrev pub AreSingle : List (Test Refusal) → Type 0
AreSingle [] = Unit {0}
AreSingle (t ∷ ts) = IsSingle t.refusal × AreSingle ts

pub append_single : (ts us : List (Test Refusal)) → AreSingle ts → AreSingle us → AreSingle (ts ++ us)
append_single [] us are more = more
append_single (t ∷ ts) us are more = (are.0, append_single ts us are.1 more)

pub each_single : {A : Type 0} (tests : A → List (Test Refusal)) (xs : List A) → ((x : A) → AreSingle (tests x))
    → AreSingle (flat_map tests xs)
each_single tests [] are = tt
each_single tests (x ∷ xs) are = append_single (tests x) (flat_map tests xs) (are x) (each_single tests xs are)

pub requested_single : {A : Type 0} (o : Option A) (ts : A → List (Test Refusal)) → ((x : A) → AreSingle (ts x))
    → AreSingle (requested_of o ts)
requested_single None ts are = tt
requested_single (Some x) ts are = are x

pub wanted_single : {A : Type 0} (o : Option A) (ts : A → List (Test Refusal)) (us : List (Test Refusal))
    → ((x : A) → AreSingle (ts x)) → AreSingle us
    → AreSingle (elim o [ Some x ↦ ts x | None ↦ us ])
wanted_single None ts us are more = more
wanted_single (Some x) ts us are more = are x

pub either_single : (b : Bool) (ts us : List (Test Refusal)) → AreSingle ts → AreSingle us
    → AreSingle (if b then ts else us)
either_single true ts us are more = are
either_single false ts us are more = more

pub net_single : (net : Option Net) (ts : Net → List (Test Refusal)) → ((n : Net) → AreSingle (ts n))
    → AreSingle (on_net net ts)
net_single net ts are = (tt, requested_single net ts are)

pub message_single : (team : List ℕ) (facts : MessageFacts) (ts : LiveMessage → List (Test Refusal))
    → ((m : LiveMessage) → AreSingle (ts m)) → AreSingle (on_message team facts ts)
message_single team facts ts are = (tt, (tt, requested_single facts.found _ (λ m. (tt, are m))))
