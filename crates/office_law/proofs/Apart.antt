-- Networks are apart.
use Rattle.office_law.proofs.Common.{◌≡◌, ◌∙◌, ℕ, List, Option, Some, inl, inr, refl, ap, subst, SpnBook, Command, Task}
use Rattle.office_law.proofs.Common.{Act, Bundle, Reply, Net, outcome, FileReading, Entries, Changing, net_named}
use Rattle.office_types.specs.declared.command.Action.TheVariants as act
use Rattle.office_law.specs.Apart.{KeepsReleases, NetworksAreApart}
use Rattle.office_law.proofs.ApartBook.{task_alike}
use Rattle.office_law.proofs.ApartReplies.{Agree, agree_task}
use Rattle.office_law.proofs.EachLeavesNameAndReleases.{left_task}
use Rattle.office_law.proofs.NameAndReleasesStay.{AreReleasesAfter, IsLeft}
use Rattle.office_law.proofs.NetsApart.{nets_apart}
use Rattle.office_law.proofs.NoTestHolds.{Leaves}

keeps : (t : Task) (net n : Net) → AreReleasesAfter (Some net) t n.releases → KeepsReleases t net n
keeps (Bundle parts) net n h = h
keeps (Act act.Release) net n h = inr (refl, h)
keeps t net n h = inl h

one_net : (team : List ℕ) (reading : FileReading) (net : Option Net) (book other : SpnBook) (c : Command)
    (reply : Reply) (n m : Net) (e f : Entries)
    → outcome team reading net book c ≡ Changing reply n e → outcome team reading net other c ≡ Changing reply m f
    → n ≡ m
one_net team reading net book other c reply n m e f h k =
    let agree : Agree (Changing reply n e) (outcome team reading net other c) =
    subst (λ a. Agree a (outcome team reading net other c)) h
    (agree_task team c.net book other reading net c.task) in
    let both : Agree (Changing reply n e) (Changing reply m f) = subst (Agree (Changing reply n e)) k agree in
    both refl

left_so : (team : List ℕ) (reading : FileReading) (net n : Net) (book : SpnBook) (c : Command) (reply : Reply)
    (e : Entries) → outcome team reading (Some net) book c ≡ Changing reply n e
    → IsLeft c.net c.task (Some net) reply n
left_so team reading net n book c reply e h =
    subst (Leaves (λ r n e. IsLeft c.net c.task (Some net) r n)) h (left_task team c.net book reading (Some net) c.task)

pub networks_are_apart : NetworksAreApart
networks_are_apart = record {
  without_book = λ team reading net book other c e. task_alike team c.net reading net book other c.task e;
  one_net = one_net;
  releases = λ team reading net n book c reply e h. let left = left_so team reading net n book c reply e h in
      (left.named, keeps c.task net n left.releases);
  others = λ profile before after team c reply name step other. ap (λ o. net_named o name) step.left
      ∙ (nets_apart before team step.reading c).others name other;
}
