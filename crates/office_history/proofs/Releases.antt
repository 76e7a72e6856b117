-- The releases of a legal history that goes on.
use Rattle.office_history.proofs.Common.{◌≡◌, ◌∙◌, ℕ, List, [], ◌∷◌, ◌++◌, append-nil, Option, Some, map, filter, refl}
use Rattle.office_history.proofs.Common.{sym, ap, subst, inl, inr, bytes_eq, cases_Bool, map-append, filter-append}
use Rattle.office_history.proofs.Common.{Sheet, SpnBook, Command, Task, Act, Import, Bundle, Reply, Net, Office}
use Rattle.office_history.proofs.Common.{outcome, FileReading, Outcome, Refusing, Changing, Profile, TeamCommand, Run}
use Rattle.office_history.proofs.Common.{Step, net_named, opening, step_outcome, StepsAgree, AreInOrder}
use Rattle.office_history.proofs.Common.{offices_are_kept}
use Rattle.std.proofs.Common.{◌⊎◌}
use Rattle.std.proofs.lemmas.List.{append_assoc}
use Rattle.office_types.specs.State.{sheet_of}
use Rattle.office_types.specs.declared.command.Action.TheVariants as act
use Rattle.office_law.specs.Apart.{KeepsReleases}
use Rattle.office_law.specs.Histories.{net_after}
use Rattle.office_law.proofs.Apart.{networks_are_apart}
use Rattle.office_law.proofs.NetsApart.{outcomes_are_left}
use Rattle.office_law.proofs.OrderedNets.{equal_texts, sorted_after}
use Rattle.office_history.specs.History.{Answered, first_arrivals, request_of}
use Rattle.office_history.specs.Laws.{ReleasesStay}
use Rattle.office_history.proofs.Histories.{others}
use Rattle.office_history.proofs.Offices.{one_run}

-- ---- a history and a run that go on

-- the first arrivals of the whole begin with those of its first part
firsts_go_on : (h more : List Answered) → (rest : List Answered)
    × (first_arrivals (h ++ more) ≡ first_arrivals h ++ rest)
firsts_go_on [] more = (first_arrivals more, refl)
firsts_go_on (a ∷ h) more =
    let below = firsts_go_on h more in (
      filter (others a) below.0,
      ap (λ firsts. a ∷ filter (others a) firsts) below.1
          ∙ ap (λ rest. a ∷ rest) (filter-append (others a) (first_arrivals h) below.0),
    )

-- a run comes by the office that its first requests leave
record SplitRun (o : Office) (qs ps : List TeamCommand) (after : Office) : Type 0 where
  mid : Office
  reported : List Reply
  later : List Reply
  to_there : Run o qs reported mid
  from_there : Run mid ps later after

split_run : (qs ps : List TeamCommand) (rs : List Reply) (o after : Office) → Run o (qs ++ ps) rs after
    → SplitRun o qs ps after
split_run [] ps rs o after run = record { mid = o; reported = []; later = rs; to_there = refl; from_there = run }
split_run (q ∷ qs) ps [] o after run = absurd run
split_run (q ∷ qs) ps (r ∷ rs) o after run =
    let below = split_run qs ps rs run.0 after run.2 in
    record {
      mid = below.mid;
      reported = r ∷ below.reported;
      later = below.later;
      to_there =
          (run.0, run.1, below.to_there);
      from_there = below.from_there;
    }

-- ---- networks stay in order

pub step_in_order : (profile : Profile) (o after : Office) (team : List ℕ) (c : Command) (r : Reply) → AreInOrder o
    → Step profile o team c r after → AreInOrder after
step_in_order profile o after team c r sorted step =
    subst AreInOrder (sym step.left) (sorted_after o (step_outcome o team step.reading c) sorted)

run_in_order : (qs : List TeamCommand) (rs : List Reply) (o after : Office) → AreInOrder o → Run o qs rs after
    → AreInOrder after
run_in_order [] [] o after sorted run = subst AreInOrder (sym run) sorted
run_in_order [] (r ∷ rs) o after sorted run = absurd run
run_in_order (q ∷ qs) [] o after sorted run = absurd run
run_in_order (q ∷ qs) (r ∷ rs) o after sorted run =
    run_in_order qs rs run.0 after (step_in_order q.0 o run.0 q.1 q.2 r sorted run.1) run.2

-- ---- releases

-- it is there, and its releases are those of the network, and then newer ones
abbrev IsThereStill : Net → Option Net → Type 0
IsThereStill net found = (then : Net) × (found ≡ Some then) × (new : List Sheet) × (then.releases ≡ net.releases ++ new)

as_it_was : (net : Net) → IsThereStill net (Some net)
as_it_was net = (net, refl, [], sym (append-nil net.releases))

and_then : (net : Net) (mid last : Option Net) → IsThereStill net mid → ((n : Net) → mid ≡ Some n → IsThereStill n last)
    → IsThereStill net last
and_then net mid last first next =
    let second = next first.0 first.1 in (
      second.0,
      second.1,
      first.2 ++ second.2,
      second.3 ∙ ap (λ sheets. sheets ++ second.2) first.3
          ∙ append_assoc net.releases first.2 second.2,
    )

after_outcome : (team : List ℕ) (reading : FileReading) (net : Net) (book : SpnBook) (c : Command) (out : Outcome)
    → outcome team reading (Some net) book c ≡ out
    → IsThereStill net (net_after (Some net) out)
after_outcome team reading net book c (Refusing r) is = as_it_was net
after_outcome team reading net book c (Changing r n e) is =
    by_task c.task (networks_are_apart.releases team reading net n book c r e is).1
  where
    or_released : (task : Task) → (n.releases ≡ net.releases)
        ⊎ ((task ≡ Act act.Release) × (n.releases ≡ net.releases ++ sheet_of net ∷ [])) → IsThereStill net (Some n)
    or_released task (inl same) = (n, refl, [], same ∙ sym (append-nil net.releases))
    or_released task (inr more) = (n, refl, sheet_of net ∷ [], more.1)

    by_task : (task : Task) → KeepsReleases task net n → IsThereStill net (Some n)
    by_task (Bundle parts) kept = (n, refl, kept.0, kept.1)
    by_task (Act a) kept = or_released (Act a) kept
    by_task (Import file) kept = or_released (Import file) kept

module _ (name : List ℕ) where
  after_step : (profile : Profile) (o after : Office) (team : List ℕ) (c : Command) (r : Reply) (net : Net)
      → AreInOrder o → Step profile o team c r after → net_named o name ≡ Some net
      → IsThereStill net (net_named after name)
  after_step profile o after team c r net sorted step is = elim (cases_Bool (bytes_eq c.net name)) [
    | inl own ↦
        let named : c.net ≡ name = equal_texts c.net name own in
        let found : net_named o c.net ≡ Some net = ap (net_named o) named ∙ is in
        let left : net_named after c.net ≡ net_after (Some net) (outcome team step.reading (Some net) o.book c) =
        ap (λ x. net_named x c.net) step.left
        ∙ outcomes_are_left o team step.reading c sorted
        ∙ ap (λ n. net_after n (outcome team step.reading n o.book c)) found in
        subst (IsThereStill net) (sym left ∙ ap (net_named after) named)
        (after_outcome team step.reading net o.book c (outcome team step.reading (Some net) o.book c) refl)
    | inr apart ↦ subst (IsThereStill net)
        (sym (networks_are_apart.others profile o after team c r name step apart ∙ is)) (as_it_was net)
  ]

  after_run : (qs : List TeamCommand) (rs : List Reply) (o after : Office) (net : Net) → AreInOrder o
      → Run o qs rs after → net_named o name ≡ Some net
      → IsThereStill net (net_named after name)
  after_run [] [] o after net sorted run is =
      subst (IsThereStill net) (sym (ap (λ x. net_named x name) run ∙ is)) (as_it_was net)
  after_run [] (r ∷ rs) o after net sorted run is = absurd run
  after_run (q ∷ qs) [] o after net sorted run is = absurd run
  after_run (q ∷ qs) (r ∷ rs) o after net sorted run is =
      and_then net (net_named run.0 name) (net_named after name) (after_step q.0 o run.0 q.1 q.2 r net sorted run.1 is)
      (λ n there. after_run qs rs run.0 after n (step_in_order q.0 o run.0 q.1 q.2 r sorted run.1) run.2 there)

pub releases_stay : StepsAgree → ReleasesStay
releases_stay agree h more before after name net legal goes_on is =
    let firsts = map request_of (first_arrivals h) in
    let rest = firsts_go_on h more in
    let whole : Run opening (firsts ++ map request_of rest.0) goes_on.replies after =
    subst (λ requests. Run opening requests goes_on.replies after)
    (ap (map request_of) rest.1 ∙ map-append request_of (first_arrivals h) rest.0) goes_on.run in
    let way = split_run firsts (map request_of rest.0) goes_on.replies opening after whole in
    let same : way.mid ≡ before = one_run agree firsts way.reported legal.replies opening way.mid before way.to_there
    legal.run in
    after_run name (map request_of rest.0) way.later before after net
    (run_in_order firsts legal.replies opening before offices_are_kept.opening_is.rising legal.run)
    (subst (λ o. Run o (map request_of rest.0) way.later after) same way.from_there) is
