-- What holds of every command that isn't refused: its reply is no refusal, the network keeps its name, and its releases
-- stay or grow by one.
use Rattle.office_law.proofs.Common.{◌≡◌, ℕ, Bool, true, false, List, [], ◌∷◌, ◌++◌, Option, Some, None, if◌then◌else◌}
use Rattle.office_law.proofs.Common.{Test, Sheet, part_reply, whole_reply, sheet_of, Task, Act, Bundle, Refusal, Reply}
use Rattle.office_law.proofs.Common.{Refused, LiveMessage, Net, live_named, Entries, Outcome, Refusing, given_or}
use Rattle.office_law.proofs.Common.{unless, on_found}
use Rattle.office_types.specs.declared.command.Action.TheVariants as act
use Rattle.office_types.specs.declared.refusal.Refusal.TheVariants as no
use Rattle.office_law.proofs.NoTestHolds.{Leaves, leaves_given, leaves_unless}

-- the releases after a command that isn't refused
abbrev pub releases_after : Option Net → Task → List Sheet
releases_after None task = []
releases_after (Some net) (Act act.Release) = net.releases ++ sheet_of net ∷ []
releases_after (Some net) task = net.releases

-- a refusal isn't an answer
abbrev pub IsAnswer : Reply → Type 0
IsAnswer (Refused r) = ⊥
IsAnswer r = Unit {0}

-- the name that a command's network has
abbrev pub name_of : List ℕ → Option Net → List ℕ
name_of name None = name
name_of name (Some net) = net.name

abbrev pub releases_of : Option Net → List Sheet
releases_of None = []
releases_of (Some net) = net.releases

-- a bundle may add several releases
abbrev pub AreReleasesAfter : Option Net → Task → List Sheet → Type 0
AreReleasesAfter net (Bundle parts) releases = (new : List Sheet) × (releases ≡ releases_of net ++ new)
AreReleasesAfter net t releases = releases ≡ releases_after net t

-- an action is answered as a part can be
abbrev pub IsPart : Task → Reply → Type 0
IsPart (Act a) r = whole_reply (part_reply r) ≡ r
IsPart t r = Unit {0}

pub record IsLeft (name : List ℕ) (t : Task) (net : Option Net) (r : Reply) (n : Net) : Type 0 where
  pub answer : IsAnswer r
  pub part : IsPart t r
  pub named : n.name ≡ name_of name net
  pub releases : AreReleasesAfter net t n.releases

module _ (P : Option Net → Reply → Net → Entries → Type 0) where
  -- a command on a network that must be there
  pub left_net : (ts : List (Test Refusal)) (net : Option Net) (out : Net → Outcome)
      → ((n : Net) → Leaves (P (Some n)) (out n)) → Leaves (P net) (unless ts (given_or no.NoNet net out))
  left_net ts None out h = leaves_unless (P None) ts (Refusing no.NoNet) (λ _. tt)
  left_net ts (Some n) out h = leaves_unless (P (Some n)) ts (out n) (λ _. h n)

  -- a command on a live message
  pub left_message : (ts : List (Test Refusal)) (net : Option Net) (name : List ℕ) (out : Net → LiveMessage → Outcome)
      → ((n : Net) (m : LiveMessage) → Leaves (P (Some n)) (out n m))
      → Leaves (P net) (unless ts (on_found net name out))
  left_message ts net name out h =
      left_net ts net _ (λ n. leaves_given (P (Some n)) no.NoMessage (live_named n.live name) (out n) (λ m _. h n m))

pub either : {A : Type 0} (Q : A → Type 0) (b : Bool) (x y : A) → Q x → Q y → Q (if b then x else y)
either Q true x y hx hy = hx
either Q false x y hx hy = hy

abbrev pub left : List ℕ → Task → Option Net → Reply → Net → Entries → Type 0
left name t net r n e = IsLeft name t net r n
