-- A command leaves the network that it names as its outcome does, and every other one as it was.
use Rattle.office_law.proofs.Common.{◌≡◌, ◌∙◌, ℕ, Bool, true, false, cond, List, [], ◌∷◌, Option, Some, refl, ap}
use Rattle.office_law.proofs.Common.{bytes_eq, bytes_eq-Decides, by_name, Command, Net, Office, FileReading, Outcome}
use Rattle.office_law.proofs.Common.{Refusing, Changing, net_named, office_after, step_outcome}
use Rattle.std.proofs.Common.{find}
use Rattle.std.specs.List.Sorted.{IsStrictlySortedBy}
use Rattle.office_law.specs.Histories.{OutcomesAreLeft, net_after}
use Rattle.office_law.proofs.OrderedNets.{equal_texts, has, other_put, own_put}
use Rattle.office_law.proofs.EachLeavesNameAndReleases.{left_task}
use Rattle.office_law.proofs.NameAndReleasesStay.{IsLeft, name_of}
use Rattle.office_law.proofs.NoTestHolds.{Leaves}

found_first : (name : List ℕ) (x : Net) (b : Bool) (later : Option Net) → has name x ≡ b → name_of name later ≡ name
    → name_of name (cond b (Some x) later) ≡ name
found_first name x true later h rest = equal_texts x.name name h
found_first name x false later h rest = rest

-- what is found has the name
pub name_of_found : (name : List ℕ) (xs : List Net) → name_of name (find (has name) xs) ≡ name
name_of_found name [] = refl
name_of_found name (x ∷ xs) = found_first name x (has name x) (find (has name) xs) refl (name_of_found name xs)

pub record ChangesOneNet (before : Office) (c : Command) (out : Outcome) : Type 0 where
  pub own : IsStrictlySortedBy by_name before.nets
      → net_named (office_after before out) c.net ≡ net_after (net_named before c.net) out
  pub others : (name : List ℕ) → bytes_eq c.net name ≡ false
      → net_named (office_after before out) name ≡ net_named before name

module _ (before : Office) (c : Command) where
  one_net : (out : Outcome) → Leaves (λ r n e. IsLeft c.net c.task (net_named before c.net) r n) out
      → ChangesOneNet before c out
  one_net (Refusing r) left = record { own = λ sorted. refl; others = λ name apart. refl }
  one_net (Changing r n e) left =
      let named : n.name ≡ c.net = left.named ∙ name_of_found c.net before.nets in
      record {
        own = λ sorted. own_put c.net n before.nets sorted ((bytes_eq-Decides n.name c.net).1 named);
        others = λ name apart. other_put name n before.nets (ap (λ v. bytes_eq v name) named ∙ apart);
      }

pub nets_apart : (before : Office) (team : List ℕ) (reading : FileReading) (c : Command)
    → ChangesOneNet before c (step_outcome before team reading c)
nets_apart before team reading c =
    one_net before c (step_outcome before team reading c)
    (left_task team c.net before.book reading (net_named before c.net) c.task)

pub outcomes_are_left : OutcomesAreLeft
outcomes_are_left before team reading c sorted = (nets_apart before team reading c).own sorted
