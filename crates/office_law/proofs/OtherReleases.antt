-- Commands that don't depend on releases.
use Rattle.office_law.proofs.Common.{◌≡◌, ◌∙◌, ◌+◌, ℕ, false, List, [], ◌∷◌, length, Option, Some, None, inl, inr, refl}
use Rattle.office_law.proofs.Common.{sym, ap, subst, list_any, option_map, false≢true, or_parts, Sheet, SpnBook, Change}
use Rattle.office_law.proofs.Common.{AddSignal, RemoveSignal, SetSpn, SetValues, AddRelease, Decision, Action, Command}
use Rattle.office_law.proofs.Common.{Task, Act, Import, Bundle, Reply, LiveMessage, Net, PartsOutcome, RefusedAt}
use Rattle.office_law.proofs.Common.{AllDone, bundle_outcome, part_then, with_part, AllFit, Decides, IsQuiet}
use Rattle.office_law.proofs.Common.{NetAndBook, all_applied, at_message, changed_book, is_release, left_after}
use Rattle.office_law.proofs.Common.{net_changed, acted, done_task, outcome, parts_done, OfReleases, Nothing, Count}
use Rattle.office_law.proofs.Common.{Bodies, is_of_releases, reads_releases, releases_read, live_named, FileReading}
use Rattle.office_law.proofs.Common.{Reading, Unreadable, file_imported, import_tests, Entries, Outcome, Refusing}
use Rattle.office_law.proofs.Common.{Changing, entered, reply_of, unless}
use Rattle.office_types.specs.declared.command.Action.TheVariants as act
use Rattle.office_rules.specs.Change.{IsDecision}
use Rattle.office_rules.specs.Commands.{action_reads_releases}
use Rattle.office_law.specs.Apart.{KeepsReleases}
use Rattle.office_law.specs.Released.{ReleasesDontCount, may_release, outcome_with, with_releases}
use Rattle.office_law.proofs.OutcomesAlike.{Depends, unless_with, w}
use Rattle.office_law.proofs.Apart.{networks_are_apart}
use Rattle.office_law.proofs.EachAction.{laws_of}
use Rattle.office_law.proofs.Unreleased.{kept_unreleased, with_found}

module _ (rs : List Sheet) where
  unread : (read : OfReleases) → is_of_releases read ≡ false → read ≡ Nothing
  unread Nothing none = refl
  unread Count none = absurd (false≢true (sym none))
  unread Bodies none = absurd (false≢true (sym none))

  act_with : (team name : List ℕ) (net : Net) (book : SpnBook) (a : Action) → action_reads_releases a ≡ false
      → acted team name (Some (w rs net)) book a ≡ outcome_with rs (acted team name (Some net) book a)
  act_with team name net book a none =
      subst (λ read. Depends read (λ net. acted team name (Some net) book a)) (unread (releases_read a) none)
      ((laws_of team name a).releases book) net rs

  file_with : (team : List ℕ) (net : Net) (reading : FileReading)
      → file_imported team (w rs net) reading ≡ outcome_with rs (file_imported team net reading)
  file_with team net (Reading s) = refl
  file_with team net (Unreadable f) = refl

  import_tests_with : (team : List ℕ) (net : Net) (reading : FileReading)
      → import_tests team (Some (w rs net)) reading ≡ import_tests team (Some net) reading
  import_tests_with team net (Reading s) = refl
  import_tests_with team net (Unreadable f) = refl

  -- the parts of a bundle

  abbrev parts_with : PartsOutcome → PartsOutcome
  parts_with (RefusedAt number r) = RefusedAt number r
  parts_with (AllDone replies None e) = AllDone replies None e
  parts_with (AllDone replies (Some net) e) = AllDone replies (Some (w rs net)) e

  part_with : (r : Reply) (e : Entries) (p : PartsOutcome) → with_part r e (parts_with p) ≡ parts_with (with_part r e p)
  part_with r e (RefusedAt number refusal) = refl
  part_with r e (AllDone replies None f) = refl
  part_with r e (AllDone replies (Some net) f) = refl

  then_with : (number : ℕ) (out : Outcome) (others : Net → Entries → PartsOutcome)
      → ((n : Net) (e : Entries) → others (w rs n) e ≡ parts_with (others n e))
      → part_then number (outcome_with rs out) others ≡ parts_with (part_then number out others)
  then_with number (Refusing r) others same = refl
  then_with number (Changing r n e) others same = ap (with_part r e) (same n e) ∙ part_with r e (others n e)

  all_parts_with : (team name : List ℕ) (number : ℕ) (net : Net) (book : SpnBook) (parts : List Action)
      → list_any action_reads_releases parts ≡ false
      → parts_done team name number (Some (w rs net)) book parts
      ≡ parts_with (parts_done team name number (Some net) book parts)
  all_parts_with team name number net book [] none = refl
  all_parts_with team name number net book (a ∷ parts) none =
      let both = or_parts (action_reads_releases a) (list_any action_reads_releases parts) none in
      ap (λ out. part_then number out (λ n e. parts_done team name (number + 1) (Some n) (entered book e) parts))
      (act_with team name net book a both.0)
      ∙ then_with number (acted team name (Some net) book a)
      (λ n e. parts_done team name (number + 1) (Some n) (entered book e) parts)
      (λ n e. all_parts_with team name (number + 1) n (entered book e) parts both.1)

  bundle_with : (p : PartsOutcome) → bundle_outcome (parts_with p) ≡ outcome_with rs (bundle_outcome p)
  bundle_with (RefusedAt number r) = refl
  bundle_with (AllDone replies None e) = refl
  bundle_with (AllDone replies (Some net) e) = refl

  task_with : (team name : List ℕ) (reading : FileReading) (net : Net) (book : SpnBook) (t : Task)
      → reads_releases t ≡ false
      → done_task team name reading (Some (w rs net)) book t
      ≡ outcome_with rs (done_task team name reading (Some net) book t)
  task_with team name reading net book (Act a) none = act_with team name net book a none
  task_with team name reading net book (Import file) none =
      ap (λ ts. unless ts (file_imported team (w rs net) reading)) (import_tests_with team net reading)
      ∙ unless_with rs (import_tests team (Some net) reading) (file_imported team net reading)
      (file_imported team (w rs net) reading) (file_with team net reading)
  task_with team name reading net book (Bundle parts) none =
      ap bundle_outcome (all_parts_with team name 1 net book parts none)
      ∙ bundle_with (parts_done team name 1 (Some net) book parts)

  -- ---- changes

  abbrev both : NetAndBook → NetAndBook
  both e = record { net = option_map (w rs) e.net; book = e.book }

  found_alike : (f : LiveMessage → LiveMessage) → ((m : LiveMessage) → f m ≡ f m)
      → (net : Net) (found : Option LiveMessage) → with_found f (w rs net) found ≡ w rs (with_found f net found)
  found_alike f same net None = refl
  found_alike f same net (Some m) = refl

  message_alike : (message : List ℕ) (f : LiveMessage → LiveMessage) (net : Net)
      → at_message message f (w rs net) ≡ w rs (at_message message f net)
  message_alike message f net = found_alike f (λ m. refl) net (live_named net.live message)

  module _ (name : List ℕ) where
    abbrev at : Net → SpnBook → NetAndBook
    at net book = record { net = Some net; book = book }

    applied_with : (cs : List Change) (net : Net) (book : SpnBook) → list_any is_release cs ≡ false
        → all_applied name cs (at (w rs net) book) ≡ both (all_applied name cs (at net book))
    applied_with [] net book none = refl
    applied_with (AddSignal message s ∷ cs) net book none =
        ap (λ n. all_applied name cs (at n book)) (message_alike message _ net)
        ∙ applied_with cs (net_changed (AddSignal message s) net) book none
    applied_with (RemoveSignal path ∷ cs) net book none =
        ap (λ n. all_applied name cs (at n book)) (message_alike path.message _ net)
        ∙ applied_with cs (net_changed (RemoveSignal path) net) book none
    applied_with (SetSpn path n ∷ cs) net book none =
        ap (λ n. all_applied name cs (at n book)) (message_alike path.message _ net)
        ∙ applied_with cs (net_changed (SetSpn path n) net) book none
    applied_with (SetValues path values ∷ cs) net book none =
        ap (λ n. all_applied name cs (at n book)) (message_alike path.message _ net)
        ∙ applied_with cs (net_changed (SetValues path values) net) book none
    applied_with (AddRelease s ∷ cs) net book none = absurd (false≢true (sym none))
    applied_with (c ∷ cs) net book none = applied_with cs (net_changed c net) (changed_book c book) none

    fit_with : (cs : List Change) (net : Net) (book : SpnBook) → list_any is_release cs ≡ false
        → AllFit name cs (at net book) → AllFit name cs (at (w rs net) book)
    fit_with [] net book none fit = tt
    fit_with (AddSignal message s ∷ cs) net book none fit = (
      fit.0,
      subst (λ n. AllFit name cs (at n book)) (sym (message_alike message _ net))
          (fit_with cs (net_changed (AddSignal message s) net) book none fit.1),
    )
    fit_with (RemoveSignal path ∷ cs) net book none fit = (
      tt,
      subst (λ n. AllFit name cs (at n book)) (sym (message_alike path.message _ net))
          (fit_with cs (net_changed (RemoveSignal path) net) book none fit.1),
    )
    fit_with (SetSpn path n ∷ cs) net book none fit = (
      tt,
      subst (λ n. AllFit name cs (at n book)) (sym (message_alike path.message _ net))
          (fit_with cs (net_changed (SetSpn path n) net) book none fit.1),
    )
    fit_with (SetValues path values ∷ cs) net book none fit = (
      tt,
      subst (λ n. AllFit name cs (at n book)) (sym (message_alike path.message _ net))
          (fit_with cs (net_changed (SetValues path values) net) book none fit.1),
    )
    fit_with (AddRelease s ∷ cs) net book none fit = absurd (false≢true (sym none))
    fit_with (c ∷ cs) net book none fit = (tt, fit_with cs (net_changed c net) (changed_book c book) none fit.1)

    reply_with : (out : Outcome) → reply_of (outcome_with rs out) ≡ reply_of out
    reply_with (Refusing r) = refl
    reply_with (Changing r n e) = refl

    left_with : (net : Net) (book : SpnBook) (out : Outcome)
        → both (left_after (at net book) out) ≡ left_after (at (w rs net) book) (outcome_with rs out)
    left_with net book (Refusing r) = refl
    left_with net book (Changing r n e) = refl

    quiet_with : (out : Outcome) (cs : List Change) → IsQuiet out cs → IsQuiet (outcome_with rs out) cs
    quiet_with (Refusing r) cs quiet = quiet
    quiet_with (Changing r n e) cs quiet = tt

    decides_with : (net : Net) (book : SpnBook) (out : Outcome) (d : Decision) → list_any is_release d.changes ≡ false
        → Decides name (at net book) out d
        → Decides name (at (w rs net) book) (outcome_with rs out) d
    decides_with net book out d none h = record {
      reply = h.reply ∙ sym (reply_with out);
      changes = applied_with d.changes net book none ∙ ap both h.changes ∙ left_with net book out;
      quiet = quiet_with out d.changes h.quiet;
      head_first = tt;
      own_blocks = h.own_blocks;
      fit = fit_with d.changes net book none h.fit;
    }

-- ---- no release is added

same_net : (out : Outcome) (rs : List Sheet) → out ≡ outcome_with rs out → (r : Reply) (n : Net) (e : Entries)
    → out ≡ Changing r n e → n.releases ≡ rs
same_net out rs same r n e is = let both : Changing r n e ≡ Changing r (with_releases rs n) e = sym is ∙ same
    ∙ ap (outcome_with rs) is in ap (λ (m : Net). m.releases) (one_net r n (with_releases rs n) e both)
  where
    one_net : (r : Reply) (n m : Net) (e : Entries) → Changing r n e ≡ Changing r m e → n ≡ m
    one_net r n m e both = cc

-- a decision whose outcome leaves the network's releases as they were
as_before : (team : List ℕ) (net : Net) (book : SpnBook) (c : Command) (d : Decision)
    (h : IsDecision team (record { net = Some net; book = book }) c d)
    → ((r : Reply) (n : Net) (e : Entries) → outcome team h.reading (Some net) book c ≡ Changing r n e
    → n.releases ≡ net.releases) → list_any is_release d.changes ≡ false
as_before team net book c d h keeps = by_outcome (outcome team h.reading (Some net) book c) refl h.decides
  where
    by_outcome : (out : Outcome) → outcome team h.reading (Some net) book c ≡ out
        → Decides c.net (record { net = Some net; book = book }) (outcome team h.reading (Some net) book c) d
        → list_any is_release d.changes ≡ false
    by_outcome (Refusing r) is decides =
        let quiet = subst (λ out. IsQuiet out d.changes) is decides.quiet in ap (list_any is_release) quiet
    by_outcome (Changing r n e) is decides =
        kept_unreleased c.net net book d.changes (left_after (record { net = Some net; book = book }) (Changing r n e))
        n
        (decides.changes ∙ ap (left_after (record { net = Some net; book = book })) is) refl
        (ap length (keeps r n e is))

unread_none : (team : List ℕ) (net : Net) (book : SpnBook) (c : Command) (d : Decision) → reads_releases c.task ≡ false
    → IsDecision team (record { net = Some net; book = book }) c d
    → list_any is_release d.changes ≡ false
unread_none team net book c d none h =
    as_before team net book c d h
    (λ r n e is. same_net (outcome team h.reading (Some net) book c) net.releases
    (task_with net.releases team c.net h.reading net book c.task none) r n e is)

-- a command that isn't `release`, and no bundle, keeps the releases
kept_by : (t : Task) (net n : Net) → may_release t ≡ false → KeepsReleases t net n → n.releases ≡ net.releases
kept_by (Act act.Release) net n may keeps = absurd (false≢true (sym may))
kept_by (Act a) net n may (inl same) = same
kept_by (Act a) net n may (inr added) = absurd (false≢true (sym may ∙ ap may_release added.0))
kept_by (Import file) net n may (inl same) = same
kept_by (Import file) net n may (inr added) = absurd (false≢true (sym may ∙ ap may_release added.0))
kept_by (Bundle parts) net n may keeps = absurd (false≢true (sym may))

none_added : (team : List ℕ) (net : Net) (book : SpnBook) (c : Command) (d : Decision) → may_release c.task ≡ false
    → IsDecision team (record { net = Some net; book = book }) c d
    → list_any is_release d.changes ≡ false
none_added team net book c d may h =
    as_before team net book c d h
    (λ r n e is. kept_by c.task net n may (networks_are_apart.releases team h.reading net n book c r e is).1)

pub releases_dont_count : ReleasesDontCount
releases_dont_count = record {
  outcomes = λ team reading net rs book c none. task_with rs team c.net reading net book c.task none;
  decisions = λ team net rs book c d none h.
      let unreleased = unread_none team net book c d none h in (
        record {
          reading = h.reading;
          read = h.read;
          decides = subst (λ out. Decides c.net (record { net = Some (with_releases rs net); book = book }) out d)
              (sym (task_with rs team c.net h.reading net book c.task none))
              (decides_with rs c.net net book (outcome team h.reading (Some net) book c) d unreleased h.decides);
        },
        unreleased,
      );
  none_added = none_added;
}
