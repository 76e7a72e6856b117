-- What is decided on a part of a network is decided on the network that the tables have.
use Rattle.store.proofs.Common.{◌≡◌, ◌∙◌, ℕ, true, false, List, [], Option, Some, None, refl, sym, ap, subst, IfSome}
use Rattle.store.proofs.Common.{option_map, false≢true, SpnBook, Change, Decision, Command, Net, HaveOwnBlocks}
use Rattle.store.proofs.Common.{IsDecision, IsHeadFirst, all_applied, Refusing, reads_part, IsNext}
use Rattle.std.specs.Prelude.{is_some}
use Rattle.std.specs.List.{list_any}
use Rattle.office_types.specs.declared.command.Action.{Action}
use Rattle.office_types.specs.declared.command.Action.TheVariants as act
use Rattle.office_types.specs.declared.command.Task.{Task}
use Rattle.office_types.specs.declared.command.Task.TheVariants.{Act, Import, Bundle}
use Rattle.office_types.specs.declared.refusal.Refusal.{Refusal}
use Rattle.office_rules.specs.Change.{AllFit, Decides, IsQuiet, is_release}
use Rattle.office_rules.specs.Commands.{done_task, outcome, reads_releases}
use Rattle.office_rules.specs.Importing.{FileReading}
use Rattle.office_rules.specs.Outcome.{reply_of}
use Rattle.office_law.specs.Released.{ReleasesDontCount, may_release, with_releases}
use Rattle.office_law.proofs.EachAction.{laws_of}
use Rattle.office_facts.specs.Excerpt.{AreFacts, IsExcerptOf, fits, is_for}
use Rattle.office_facts.specs.FactsOf.{facts_in}
use Rattle.office_facts.specs.Scope.{Scope, scope_of}
use Rattle.office_facts.specs.declared.excerpt.Excerpt.{Excerpt}
use Rattle.store_net.specs.Excerpts.{IsExcerptIn}

-- ---- a network that isn't there

-- a command that goes by an excerpt is refused, whatever the book
none_refused : (team name : List ℕ) (reading : FileReading) (t : Task) → reads_part t ≡ true → (r : Refusal)
    × ((book : SpnBook) → done_task team name reading None book t ≡ Refusing r)
none_refused team name reading (Act (act.OpenNet c)) by = absurd (false≢true by)
none_refused team name reading (Act a) by = (laws_of team name a).nowhere refl
none_refused team name reading (Import file) by = absurd (false≢true by)
none_refused team name reading (Bundle parts) by = absurd (false≢true by)

-- decided with some book, it is decided with any
absent : (team : List ℕ) (c : Command) (d : Decision) (some book : SpnBook) → reads_part c.task ≡ true
    → IsDecision team (record { net = None; book = some }) c d
    → IsDecision team (record { net = None; book = book }) c d × (list_any is_release d.changes ≡ false)
absent team c d some book by h =
    let refused = none_refused team c.net h.reading c.task by in
    let was : outcome team h.reading None some c ≡ Refusing refused.0 = refused.1 some in
    let is : outcome team h.reading None book c ≡ Refusing refused.0 = refused.1 book in
    let quiet : d.changes ≡ [] = subst (λ out. IsQuiet out d.changes) was h.decides.quiet in (
      record {
        reading = h.reading;
        read = tt;
        decides = subst (λ out. Decides c.net (record { net = None; book = book }) out d) (sym is) (record {
          reply = h.decides.reply ∙ ap reply_of was;
          changes = ap (λ (cs : List Change). all_applied c.net cs (record { net = None; book = book })) quiet;
          quiet = quiet;
          head_first = subst (IsHeadFirst None) (sym quiet) tt;
          own_blocks = subst HaveOwnBlocks (sym quiet) tt;
          fit = subst (λ (cs : List Change). AllFit c.net cs (record { net = None; book = book })) (sym quiet) tt;
        });
      },
      ap (list_any is_release) quiet,
    )

-- ---- by an excerpt

adds_none : (t : Task) → reads_part t ≡ true → may_release t ≡ false
adds_none (Act act.Release) by = absurd (false≢true by)
adds_none (Act a) by = refl
adds_none (Import file) by = refl
adds_none (Bundle parts) by = absurd (false≢true by)

abbrev IsDecided : List ℕ → Command → Decision → Option Net → SpnBook → Type 0
IsDecided team c d net book =
    IsDecision team (record { net = net; book = book }) c d × (list_any is_release d.changes ≡ false)

-- what was read for the scope of the task's action

pub absent_decided : (team : List ℕ) (c : Command) (d : Decision) (some : SpnBook) (net : Option Net) (book : SpnBook)
    (scope : Scope) (found : Option Excerpt) → reads_part c.task ≡ true
    → found ≡ None → IsExcerptIn team scope net found → IsDecision team (record { net = None; book = some }) c d
    → IsDecided team c d net book
absent_decided team c d some None book scope found by nothing read h = absent team c d some book by h
absent_decided team c d some (Some n) book scope found by nothing read h =
    absurd (subst (IsExcerptIn team scope (Some n)) nothing read)

pub excerpt_decided : ReleasesDontCount → (team : List ℕ) (c : Command) (d : Decision) (a : Action) (e : Excerpt)
    (net : Option Net) (book : SpnBook) (scope : Scope) (found : Option Excerpt)
    → reads_part c.task ≡ true → c.task ≡ Act a → scope ≡ scope_of a → found ≡ Some e → IsExcerptIn team scope net found
    → ((n : Net) → IsExcerptOf team n c.task e → IsDecision team (record { net = Some n; book = book }) c d)
    → IsDecided team c d net book
excerpt_decided law team c d a e None book scope found by act of excerpt read one =
    absurd (subst (IsExcerptIn team scope None) excerpt read)
excerpt_decided law team c d a e (Some n) book scope found by act of excerpt read one =
    let its : AreFacts team n (scope_of a) (facts_in e) =
    subst (λ s. AreFacts team n s (facts_in e)) of (subst (IsExcerptIn team scope (Some n)) excerpt read) in
    let decision = one n (subst (λ t. IsExcerptOf team n t e) (sym act) its) in
    (decision, law.none_added team n book c d (adds_none c.task by) decision)

-- it is of that scope
pub fits_task : (t : Task) (a : Action) (e : Excerpt) (scope : Scope) (found : Option Excerpt) → t ≡ Act a
    → scope ≡ scope_of a → found ≡ Some e
    → IfSome found (λ e. fits scope (facts_in e) ≡ true) → is_for t e ≡ true
fits_task t a e scope found act of excerpt fit =
    ap (λ k. is_for k e) act ∙ ap (λ s. fits s (facts_in e)) (sym of)
    ∙ subst (λ o. IfSome o (λ e. fits scope (facts_in e) ≡ true)) excerpt fit

-- ---- without releases

pub unreleased_decided : ReleasesDontCount → (team : List ℕ) (c : Command) (d : Decision) (net made : Option Net)
    (book : SpnBook) (next : Option ℕ) → reads_releases c.task ≡ false
    → made ≡ option_map (with_releases []) net → (is_some made ≡ false → next ≡ Some 1)
    → IsDecision team (record { net = made; book = book }) c d
    → IsDecision team (record { net = net; book = book }) c d × IsNext next net d.changes
unreleased_decided law team c d None made book next unread without first h = (
  subst (λ m. IsDecision team (record { net = m; book = book }) c d) without h,
  λ released. first (ap is_some without),
)
unreleased_decided law team c d (Some net) made book next unread without first h =
    let both = law.decisions team (with_releases [] net) net.releases book c d unread
    (subst (λ m. IsDecision team (record { net = m; book = book }) c d) without h) in
    (both.0, λ released. absurd (false≢true (sym both.1 ∙ released)))

-- no release, so no number is wanted
pub next_unwanted : (net : Option Net) (cs : List Change) → list_any is_release cs ≡ false → IsNext None net cs
next_unwanted net cs no_release released = absurd (false≢true (sym no_release ∙ released))
