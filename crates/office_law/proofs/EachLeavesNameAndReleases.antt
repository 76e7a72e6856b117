-- Each command that isn't refused leaves the name and the releases of its network so.
use Rattle.office_law.proofs.Common.{◌≡◌, ℕ, List, [], ◌∷◌, ◌++◌, Option, Some, None, append-nil, append_assoc, refl}
use Rattle.office_law.proofs.Common.{sym, ap, ◌∙◌, IfSome, Sheet, sheet_of, SpnBook, Action, Task, Act, Import, Bundle}
use Rattle.office_law.proofs.Common.{PartReply, Reply, Net, acted, done_task, parts_done, FileReading, Reading}
use Rattle.office_law.proofs.Common.{Unreadable, file_imported, import_tests, entered}
use Rattle.std.specs.Prelude.{◌+◌}
use Rattle.office_types.specs.declared.command.Action.TheVariants as act
use Rattle.office_types.specs.declared.reply.Reply.TheVariants.{Bundle as Bundled}
use Rattle.office_law.proofs.EachAction.{laws_of}
use Rattle.office_law.proofs.NameAndReleasesStay.{IsLeft, left, left_net, name_of, releases_after, releases_of}
use Rattle.office_law.proofs.Parts.{LeavesAll, leaves_all_weaker, leaves_bundle, leaves_then, leaves_with}
use Rattle.office_law.proofs.NoTestHolds.{Leaves}

module _ (team name : List ℕ) (book : SpnBook) where
  pub left_act : (net : Option Net) (a : Action) → Leaves (left name (Act a) net) (acted team name net book a)
  left_act net a = (laws_of team name a).left book net

  left_import : (file : List ℕ) (reading : FileReading) (n : Net)
      → Leaves (left name (Import file) (Some n)) (file_imported team n reading)
  left_import file (Reading s) n = record { answer = tt; part = tt; named = refl; releases = refl }
  left_import file (Unreadable f) n = tt

-- What the parts of a bundle leave, one after the other.

pub record HasGrown (name : List ℕ) (net : Option Net) (n : Net) : Type 0 where
  pub named : n.name ≡ name_of name net
  pub releases : (new : List Sheet) × (n.releases ≡ releases_of net ++ new)

grown_by : (net : Option Net) (a : Action) → (new : List Sheet) × (releases_after net (Act a) ≡ releases_of net ++ new)
grown_by None a = ([], refl)
grown_by (Some net) act.Release = (sheet_of net ∷ [], refl)
grown_by (Some net) a = ([], sym (append-nil net.releases))

module _ (team name : List ℕ) where
  grown_more : (net : Option Net) (n : Net) (m : Option Net) (t : Action) (r : Reply) → IsLeft name (Act t) net r n
      → IfSome m (HasGrown name (Some n)) → IfSome m (HasGrown name net)
  grown_more net n None t r left h = tt
  grown_more net n (Some m) t r left h =
      let first = grown_by net t in
      record {
        named = h.named ∙ left.named;
        releases = (
          first.0 ++ h.releases.0,
          h.releases.1 ∙ ap (λ v. v ++ h.releases.0) (left.releases ∙ first.1)
              ∙ append_assoc (releases_of net) first.0 h.releases.0,
        );
      }

  left_parts : (number : ℕ) (net : Option Net) (book : SpnBook) (parts : List Action)
      → LeavesAll (λ rs m e. IfSome m (HasGrown name net)) (parts_done team name number net book parts)
  left_parts number None book [] = tt
  left_parts number (Some n) book [] = record { named = refl; releases = ([], sym (append-nil n.releases)) }
  left_parts number net book (a ∷ parts) =
      leaves_then (left name (Act a) net) (λ rs m e. IfSome m (HasGrown name net)) number (acted team name net book a)
      (λ n e. parts_done team name (number + 1) (Some n) (entered book e) parts)
      (left_act team name book net a) (λ r n e left.
      leaves_with r e (λ rs m f. IfSome m (HasGrown name (Some n))) (λ rs m f. IfSome m (HasGrown name net))
      (λ rs m f h. grown_more net n m a r left h)
      (parts_done team name (number + 1) (Some n) (entered book e) parts)
      (left_parts (number + 1) (Some n) (entered book e) parts))

  -- whatever the command does
  pub left_task : (book : SpnBook) (reading : FileReading) (net : Option Net) (t : Task)
      → Leaves (λ r n e. IsLeft name t net r n) (done_task team name reading net book t)
  left_task book reading net (Act a) = left_act team name book net a
  left_task book reading net (Import file) =
      left_net (left name (Import file)) (import_tests team net reading) net (λ n. file_imported team n reading)
      (left_import team name book file reading)
  left_task book reading net (Bundle parts) =
      leaves_bundle (left name (Bundle parts) net) (parts_done team name 1 net book parts)
      (leaves_all_weaker (λ rs m e. IfSome m (HasGrown name net))
      (λ rs m e. IfSome m (λ n. IsLeft name (Bundle parts) net (Bundled rs) n))
      (λ rs m e h. as_left parts net rs m h) (parts_done team name 1 net book parts) (left_parts 1 net book parts))
    where
      as_left : (parts : List Action) (net : Option Net) (rs : List PartReply) (m : Option Net)
          → IfSome m (HasGrown name net) → IfSome m (λ n. IsLeft name (Bundle parts) net (Bundled rs) n)
      as_left parts net rs None h = tt
      as_left parts net rs (Some n) h = record { answer = tt; part = tt; named = h.named; releases = h.releases }
