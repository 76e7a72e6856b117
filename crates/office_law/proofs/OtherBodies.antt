-- A command that doesn't depend on what is in a release is decided alike where there are as many other ones.
use Rattle.office_law.proofs.Common.{◌≡◌, ◌∙◌, ◌+◌, ℕ, false, List, [], ◌∷◌, ◌++◌, length, Option, Some, None, refl}
use Rattle.office_law.proofs.Common.{sym, ap, subst, append-nil, append_assoc, list_any, option_map, false≢true}
use Rattle.office_law.proofs.Common.{or_parts, Sheet, SpnBook, Change, AddSignal, RemoveSignal, SetSpn, SetValues}
use Rattle.office_law.proofs.Common.{AddRelease, Decision, Action, Task, Act, Import, Bundle, Reply, LiveMessage, Net}
use Rattle.office_law.proofs.Common.{PartsOutcome, RefusedAt, AllDone, bundle_outcome, part_then, with_part, AllFit}
use Rattle.office_law.proofs.Common.{Decides, IsQuiet, NetAndBook, all_applied, applied, at_message, changed_book}
use Rattle.office_law.proofs.Common.{left_after, net_changed, acted, done_task, outcome, parts_done, OfReleases}
use Rattle.office_law.proofs.Common.{Nothing, Count, Bodies, is_of_releases, reads_releases, releases_read, live_named}
use Rattle.office_law.proofs.Common.{FileReading, Entries, Outcome, Refusing, Changing, entered, no_entries, reply_of}
use Rattle.std.proofs.Common.{length-append}
use Rattle.std.proofs.lemmas.List.{append_cancel_left}
use Rattle.office_types.specs.declared.change.Change.TheVariants.{SetHead}
use Rattle.office_rules.specs.Change.{Fits, changed_net}
use Rattle.office_rules.specs.Commands.{action_reads_bodies, is_of_bodies, reads_bodies}
use Rattle.office_law.specs.Released.{BodiesDontCount, ReleasesDontCount, outcome_with}
use Rattle.office_law.proofs.OutcomesAlike.{Alike, Depends, unreleased_alike, w}
use Rattle.office_law.proofs.EachAction.{laws_of}
use Rattle.office_law.proofs.OtherReleases.{releases_dont_count}
use Rattle.office_law.proofs.Unreleased.{with_found}

-- ---- actions and tasks

module _ (law : ReleasesDontCount) (team name : List ℕ) (reading : FileReading) where
  by_law : (rs qs : List Sheet) (net : Net) (book : SpnBook) (t : Task) → reads_releases t ≡ false
      → Alike rs qs (done_task team name reading (Some (w rs net)) book t)
      (done_task team name reading (Some (w qs net)) book t)
  by_law rs qs net book t none =
      let one : (l : List Sheet) → done_task team name reading (Some (w l net)) book t
      ≡ outcome_with l (done_task team name reading (Some net) book t)
      = λ l. law.outcomes team reading net l book (record { net = name; task = t }) none in
      subst (λ out. Alike rs qs out (done_task team name reading (Some (w qs net)) book t)) (sym (one rs))
      (subst (Alike rs qs (outcome_with rs (done_task team name reading (Some net) book t))) (sym (one qs))
      (unreleased_alike rs qs (done_task team name reading (Some net) book t)))

  acted_alike : (rs qs : List Sheet) (net : Net) (book : SpnBook) (a : Action) → action_reads_bodies a ≡ false
      → length rs ≡ length qs
      → Alike rs qs (acted team name (Some (w rs net)) book a) (acted team name (Some (w qs net)) book a)
  acted_alike rs qs net book a none same = by_reading (releases_read a) refl none
    where
      by_reading : (read : OfReleases) → releases_read a ≡ read → is_of_bodies read ≡ false
          → Alike rs qs (acted team name (Some (w rs net)) book a) (acted team name (Some (w qs net)) book a)
      by_reading Nothing is none = by_law rs qs net book (Act a) (ap is_of_releases is)
      by_reading Count is none =
          subst (λ read. Depends read (λ n. acted team name (Some n) book a)) is ((laws_of team name a).releases book)
          net rs qs same
      by_reading Bodies is none = absurd (false≢true (sym none))

  -- the parts of a bundle

  abbrev PartsAlike : List Sheet → List Sheet → PartsOutcome → PartsOutcome → Type 0
  PartsAlike rs qs (RefusedAt number r) p = p ≡ RefusedAt number r
  PartsAlike rs qs (AllDone replies None e) p = p ≡ AllDone replies None e
  PartsAlike rs qs (AllDone replies (Some n) e) p = (added : List Sheet) × (n.releases ≡ rs ++ added)
      × (p ≡ AllDone replies (Some (w (qs ++ added) n)) e)

  part_alike : (rs qs added : List Sheet) (r : Reply) (e : Entries) (p q : PartsOutcome)
      → PartsAlike (rs ++ added) (qs ++ added) p q → PartsAlike rs qs (with_part r e p) (with_part r e q)
  part_alike rs qs added r e (RefusedAt number refusal) q alike = ap (with_part r e) alike
  part_alike rs qs added r e (AllDone replies None f) q alike = ap (with_part r e) alike
  part_alike rs qs added r e (AllDone replies (Some n) f) q alike = (
    added ++ alike.0,
    alike.1 ∙ append_assoc rs added alike.0,
    ap (with_part r e) (alike.2 ∙ ap (λ l. AllDone replies (Some (w l n)) f) (append_assoc qs added alike.0)),
  )

  then_alike : (rs qs : List Sheet) (number : ℕ) (out other : Outcome) (others : Net → Entries → PartsOutcome)
      → Alike rs qs out other
      → ((added : List Sheet) (n : Net) (e : Entries) → n.releases ≡ rs ++ added
      → PartsAlike (rs ++ added) (qs ++ added) (others n e) (others (w (qs ++ added) n) e))
      → PartsAlike rs qs (part_then number out others) (part_then number other others)
  then_alike rs qs number (Refusing r) other others alike rest = ap (λ o. part_then number o others) alike
  then_alike rs qs number (Changing r n e) other others alike rest =
      subst (λ o. PartsAlike rs qs (with_part r e (others n e)) (part_then number o others)) (sym alike.2)
      (part_alike rs qs alike.0 r e (others n e) (others (w (qs ++ alike.0) n) e) (rest alike.0 n e alike.1))

  more_alike : (rs qs added : List Sheet) → length rs ≡ length qs → length (rs ++ added) ≡ length (qs ++ added)
  more_alike rs qs added same = length-append rs added ∙ ap (λ n. n + length added) same ∙ sym (length-append qs added)

  parts_alike : (rs qs : List Sheet) (number : ℕ) (net : Net) (book : SpnBook) (parts : List Action)
      → list_any action_reads_bodies parts ≡ false → length rs ≡ length qs
      → PartsAlike rs qs (parts_done team name number (Some (w rs net)) book parts)
      (parts_done team name number (Some (w qs net)) book parts)
  parts_alike rs qs number net book [] none same =
      ([], sym (append-nil rs), ap (λ l. AllDone [] (Some (w l net)) no_entries) (sym (append-nil qs)))
  parts_alike rs qs number net book (a ∷ parts) none same =
      let both = or_parts (action_reads_bodies a) (list_any action_reads_bodies parts) none in
      then_alike rs qs number (acted team name (Some (w rs net)) book a) (acted team name (Some (w qs net)) book a)
      (λ n e. parts_done team name (number + 1) (Some n) (entered book e) parts)
      (acted_alike rs qs net book a both.0 same)
      (λ added n e are. (
      subst (λ l. PartsAlike (rs ++ added) (qs ++ added)
      (parts_done team name (number + 1) (Some (w l n)) (entered book e) parts)
      (parts_done team name (number + 1) (Some (w (qs ++ added) n)) (entered book e) parts)) (sym are)
      (parts_alike (rs ++ added) (qs ++ added) (number + 1) n (entered book e) parts both.1
      (more_alike rs qs added same))))

  bundle_alike : (rs qs : List Sheet) (p q : PartsOutcome) → PartsAlike rs qs p q
      → Alike rs qs (bundle_outcome p) (bundle_outcome q)
  bundle_alike rs qs (RefusedAt number r) q alike = ap bundle_outcome alike
  bundle_alike rs qs (AllDone replies None e) q alike = ap bundle_outcome alike
  bundle_alike rs qs (AllDone replies (Some n) e) q alike = (alike.0, alike.1, ap bundle_outcome alike.2)

  task_alike : (rs qs : List Sheet) (net : Net) (book : SpnBook) (t : Task) → reads_bodies t ≡ false
      → length rs ≡ length qs
      → Alike rs qs (done_task team name reading (Some (w rs net)) book t)
      (done_task team name reading (Some (w qs net)) book t)
  task_alike rs qs net book (Act a) none same = acted_alike rs qs net book a none same
  task_alike rs qs net book (Import file) none same = by_law rs qs net book (Import file) refl
  task_alike rs qs net book (Bundle parts) none same =
      bundle_alike rs qs (parts_done team name 1 (Some (w rs net)) book parts)
      (parts_done team name 1 (Some (w qs net)) book parts) (parts_alike rs qs 1 net book parts none same)

-- ---- changes

abbrev adds : Change → List Sheet
adds (AddRelease s) = s ∷ []
adds c = []

abbrev all_adds : List Change → List Sheet
all_adds [] = []
all_adds (c ∷ cs) = adds c ++ all_adds cs

found_alike : (rs : List Sheet) (f : LiveMessage → LiveMessage) (net : Net) (found : Option LiveMessage)
    → with_found f (w rs net) found ≡ w rs (with_found f net found)
found_alike rs f net None = refl
found_alike rs f net (Some m) = refl

message_alike : (rs : List Sheet) (message : List ℕ) (f : LiveMessage → LiveMessage) (net : Net)
    → at_message message f (w rs net) ≡ w rs (at_message message f net)
message_alike rs message f net = found_alike rs f net (live_named net.live message)

kept : (rs : List Sheet) (n : Net) → w rs n ≡ w (rs ++ []) n
kept rs n = ap (λ l. w l n) (sym (append-nil rs))

changed_alike : (rs : List Sheet) (c : Change) (net : Net)
    → net_changed c (w rs net) ≡ w (rs ++ adds c) (net_changed c net)
changed_alike rs (AddSignal message s) net = message_alike rs message _ net
    ∙ kept rs (net_changed (AddSignal message s) net)
changed_alike rs (RemoveSignal path) net = message_alike rs path.message _ net
    ∙ kept rs (net_changed (RemoveSignal path) net)
changed_alike rs (SetSpn path n) net = message_alike rs path.message _ net ∙ kept rs (net_changed (SetSpn path n) net)
changed_alike rs (SetValues path values) net = message_alike rs path.message _ net
    ∙ kept rs (net_changed (SetValues path values) net)
changed_alike rs (AddRelease s) net = refl
changed_alike rs c net = kept rs (net_changed c net)

module _ (name : List ℕ) where
  abbrev at : Net → SpnBook → NetAndBook
  at net book = record { net = Some net; book = book }

  abbrev both : List Sheet → NetAndBook → NetAndBook
  both rs e = record { net = option_map (w rs) e.net; book = e.book }

  there : (c : Change) (net : Net) → changed_net name c (Some net) ≡ Some (net_changed c net)
  there (SetHead h) net = refl
  there c net = refl

  one_applied : (rs : List Sheet) (c : Change) (net : Net) (book : SpnBook)
      → applied name c (at (w rs net) book) ≡ at (w (rs ++ adds c) (net_changed c net)) (changed_book c book)
  one_applied rs c net book =
      ap (λ n. record { net = n; book = changed_book c book }) (there c (w rs net) ∙ ap Some (changed_alike rs c net))

  -- what the changes lead to differs in the releases that were there before
  all_alike : (cs : List Change) (rs qs : List Sheet) (net : Net) (book : SpnBook)
      → all_applied name cs (at (w qs net) book) ≡ both (qs ++ all_adds cs) (all_applied name cs (at (w rs net) book))
  all_alike [] rs qs net book = ap (λ l. at (w l net) book) (sym (append-nil qs))
  all_alike (c ∷ cs) rs qs net book =
      ap (all_applied name cs) (one_applied qs c net book)
      ∙ all_alike cs (rs ++ adds c) (qs ++ adds c) (net_changed c net) (changed_book c book)
      ∙ ap (λ l. both l (all_applied name cs (at (w (rs ++ adds c) (net_changed c net)) (changed_book c book))))
      (append_assoc qs (adds c) (all_adds cs))
      ∙ ap (λ e. both (qs ++ (adds c ++ all_adds cs)) (all_applied name cs e)) (sym (one_applied rs c net book))

  one_fits : (rs qs : List Sheet) (c : Change) (net : Net) → Fits c (Some (w rs net)) → Fits c (Some (w qs net))
  one_fits rs qs (AddSignal message s) net fit = fit
  one_fits rs qs c net fit = tt

  fit_alike : (cs : List Change) (rs qs : List Sheet) (net : Net) (book : SpnBook) → AllFit name cs (at (w rs net) book)
      → AllFit name cs (at (w qs net) book)
  fit_alike [] rs qs net book fit = tt
  fit_alike (c ∷ cs) rs qs net book fit = (
    one_fits rs qs c net fit.0,
    subst (AllFit name cs) (sym (one_applied qs c net book))
        (fit_alike cs (rs ++ adds c) (qs ++ adds c) (net_changed c net) (changed_book c book)
        (subst (AllFit name cs) (one_applied rs c net book) fit.1)),
  )

  one_net : (m n : Net) (b c : SpnBook) → at m b ≡ at n c → m ≡ n
  one_net m n b c same = some_same m n (ap (λ (e : NetAndBook). e.net) same)
    where
      some_same : (m n : Net) → Some m ≡ Some n → m ≡ n
      some_same m n same = cc

  -- the releases that a decision adds are those of the outcome
  same_added : (rs added : List Sheet) (net n : Net) (book after : SpnBook) (cs : List Change)
      → n.releases ≡ rs ++ added → all_applied name cs (at (w rs net) book) ≡ at n after → all_adds cs ≡ added
  same_added rs added net n book after cs are leads =
      let is : n ≡ w (rs ++ all_adds cs) n =
      one_net n (w (rs ++ all_adds cs) n) after after
      (sym leads ∙ all_alike cs rs rs net book ∙ ap (both (rs ++ all_adds cs)) leads) in
      append_cancel_left rs (all_adds cs) added (sym (ap (λ (m : Net). m.releases) is) ∙ are)

  decides_alike : (rs qs : List Sheet) (net : Net) (book : SpnBook) (out other : Outcome) (d : Decision)
      → Alike rs qs out other → Decides name (at (w rs net) book) out d
      → Decides name (at (w qs net) book) other d
  decides_alike rs qs net book (Refusing r) other d alike h = record {
    reply = h.reply ∙ sym (ap reply_of alike);
    changes = ap (λ (cs : List Change). all_applied name cs (at (w qs net) book)) h.quiet
        ∙ sym (ap (left_after (at (w qs net) book)) alike);
    quiet = subst (λ o. IsQuiet o d.changes) (sym alike) h.quiet;
    head_first = tt;
    own_blocks = h.own_blocks;
    fit = fit_alike d.changes rs qs net book h.fit;
  }
  decides_alike rs qs net book (Changing r n e) other d alike h = record {
    reply = h.reply ∙ sym (ap reply_of alike.2);
    changes = all_alike d.changes rs qs net book
        ∙ ap (both (qs ++ all_adds d.changes)) h.changes
        ∙ ap (λ l. at (w (qs ++ l) n) (entered book e))
        (same_added rs alike.0 net n book (entered book e) d.changes alike.1 h.changes)
        ∙ sym (ap (left_after (at (w qs net) book)) alike.2);
    quiet = subst (λ o. IsQuiet o d.changes) (sym alike.2) tt;
    head_first = tt;
    own_blocks = h.own_blocks;
    fit = fit_alike d.changes rs qs net book h.fit;
  }

-- decided on the network with as many other releases, it is decided on the network
pub bodies_dont_count : BodiesDontCount
bodies_dont_count team net rs qs book c d none same h = record {
  reading = h.reading;
  read = h.read;
  decides = decides_alike c.net rs qs net book (outcome team h.reading (Some (w rs net)) book c)
      (outcome team h.reading (Some (w qs net)) book c) d
      (task_alike releases_dont_count team c.net h.reading rs qs net book c.task none same) h.decides;
}
