-- A database that was opened, used and closed.
use Rattle.canoffice_cli.proofs.Common.{◌≡◌, ◌⊎◌, inl, inr, List, ℕ, [], ◌++◌, Option, None, Some, Result, Ok, Err}
use Rattle.canoffice_cli.proofs.Common.{refl, sym, ap, subst, ◌∙◌, append-nil, IfOk, IsTrue, OnErr, ⊤, result_map_both}
use Rattle.canoffice_cli.proofs.Common.{on_err_weaker, Database, Held, state, HasCleanDisk, State, over_memory}
use Rattle.canoffice_cli.proofs.Common.{MemStore, Office, Answered, statistics_of, Lost, Memory, Holding, HasNone}
use Rattle.canoffice_cli.proofs.Common.{HoldingInSomeForm, HoldingOlder, in_form, office_in_form, older_in_form}
use Rattle.std.specs.Prelude.{IsErr, IsSome, OnOk}
use Rattle.std.proofs.lemmas.Result.{on_ok_weaker}
use Rattle.sqlite.proofs.Callers.{memory_is_clean}
use Rattle.office_history.specs.History.{IsLegal}
use Rattle.store_tables.specs.Schema.{no_schema}
use Rattle.store_migrate.specs.FormSchema.{schema_of}
use Rattle.office_types.specs.declared.look.Look.{Look}
use Rattle.store.specs.Looking.{IsShown}
use Rattle.store.proofs.OpenedTables.{none_of_office}
use Rattle.store.proofs.TablesInForm.{schema_in_form}
use Rattle.canoffice_cli.specs.Answered.{InDatabase, NoneAnswered}
use Rattle.canoffice_cli.specs.Databases.{AreKept, Begins, Databases, HasBegun, HoldsInSomeForm, Statistics}
use Rattle.canoffice_cli.specs.Databases.{StatisticsStay, known_of, nothing_known}
use Rattle.canoffice_cli.specs.Jobs.Looked.{IsLookedUp}
use Rattle.canoffice_cli.specs.Jobs.Migrated.{IsMigrated}
use Rattle.canoffice_cli.proofs.Reported.{same_in_form, same_older}

-- what is known stays known where nothing is done
pub kept_same : (known : Databases) → AreKept known known
kept_same known = record {
  holds = λ path h holds. holds;
  holds_in_form = λ path h holds. holds;
  holds_older = λ path h holds. holds;
  is_new = λ path new. new;
  has_statistics = λ path rows has. has;
}

pub ok_of : {A E : Type 0} (P : A → Type 0) (r : Result A E) (x : A) → r ≡ Ok x → IfOk r P → P x
ok_of P r x is h = subst (λ q. IfOk q P) is h

pub on_ok : {A E : Type 0} (X : Type 0) (r : Result A E) (x : A) → r ≡ Ok x → OnOk r X → X
on_ok X r x is h = subst (λ q. OnOk q X) is h

-- what holds where a result is an error
pub if_err : {A E : Type 0} (X : Type 0) (r : Result A E) → ((e : E) → r ≡ Err e → X) → OnErr r X
if_err X (Ok x) at = tt
if_err X (Err e) at = at e refl

pub err_of : {A E : Type 0} (X : Type 0) (r : Result A E) (e : E) → r ≡ Err e → OnErr r X → X
err_of X r e is h = subst (λ q. OnErr q X) is h

-- what holds of each value that a result may have
pub if_ok : {A E : Type 0} (P : A → Type 0) (r : Result A E) → ((x : A) → r ≡ Ok x → P x) → IfOk r P
if_ok P (Ok x) each = each x refl
if_ok P (Err e) each = tt

-- of the value that a result is mapped to, and of its error
if_ok_mapped : {A B E : Type 0} (f : A → B) (P : B → Type 0) (r : Result A E) → IfOk r (λ x. P (f x))
    → IfOk (result_map_both f (λ e. e) r) P
if_ok_mapped f P (Ok x) holds = holds
if_ok_mapped f P (Err e) holds = tt

is_err_mapped : {A B E : Type 0} (f : A → B) (r : Result A E) → IsErr r → IsErr (result_map_both f (λ e. e) r)
is_err_mapped f (Ok x) is = is
is_err_mapped f (Err e) is = refl

-- whatever the result
pub either_way : {A E : Type 0} (X : Type 0) (r : Result A E) → OnOk r X → OnErr r X → X
either_way X (Ok x) ok err = ok
either_way X (Err e) ok err = err

-- one of two that hold of what was answered
pub held_or_none : {A E : Type 0} (P Q : A → Type 0) (r : Result A E) → IfOk r P → IfOk r (λ x. P x ⊎ Q x)
held_or_none P Q (Ok x) h = inl h
held_or_none P Q (Err e) h = tt

-- tables that hold a history are some
pub no_office_is_new : (h : List Answered) (s : State) (holding : HoldingInSomeForm h s)
    → s.now.schema ≡ schema_of holding.keeps.1 → s.now.schema ≡ no_schema → ⊥
no_office_is_new h s holding known new =
    none_of_office s.now.schema new (schema_in_form s (office_in_form h s holding) known)

-- nothing was answered, since the database was not opened
pub none_answered : {A : Type 0} (answers : List A) (lost : Option Lost) (why : Lost) → lost ≡ Some why → answers ≡ []
    → NoneAnswered answers lost
none_answered answers lost why is none = (subst (λ (o : Option Lost). IsSome o) (sym is) refl, none)

pub none_reported : (known : Databases) (path : List ℕ) (reported : List Answered) (lost : Option Lost)
    → NoneAnswered reported lost → InDatabase known known path reported lost
none_reported known path reported lost none = record {
  held = λ h holds sound. subst (known.holds path) (sym (ap (λ t. h ++ t) none.1 ∙ append-nil h)) holds;
  completed = λ h holds sound. inr (none, holds);
  older = λ h holds sound. (none, holds);
  made = λ new sound. inr (none, new);
  statistics = λ begun sound rows has. has;
}

-- nothing was shown, since there is no table
pub none_looked_up : (known : Databases) (path : List ℕ) (look : Look)
    → ((h : List Answered) → HoldsInSomeForm known path h → ⊥) → IsLookedUp known known path look (Ok None)
none_looked_up known path look none = record {
  of_held = λ h office holds legal sound. absurd (none h holds);
  held = λ h holds sound. holds;
  completed = λ h holds sound. absurd (none h (inr (inl holds)));
  left = λ h holds sound. holds;
  older = λ h holds sound. absurd (none h (inr (inr holds)));
  statistics = λ begun sound rows has. has;
  of_none = λ new. (refl, kept_same known);
}

-- ---- of a connection

-- it shows what is known of the database of the path
pub record IsOpenedOn (known : Databases) (path : List ℕ) (s : State) : Type 0 where
  pub held : (h : List Answered) → known.holds path h → Holding h s
  pub in_form : (h : List Answered) → known.holds_in_form path h → HoldingInSomeForm h s
  pub older : (h : List Answered) → known.holds_older path h → HoldingOlder h s
  pub none : known.is_new path → HasNone s
  pub rows : (rows : Statistics) → known.has_statistics path rows → statistics_of s.now ≡ rows

-- what it shows is known of the database of the path
pub record IsClosedOn (known : Databases) (path : List ℕ) (s : State) : Type 0 where
  pub sound : known.is_sound → HasCleanDisk s × IsTrue s.is_open
  pub held : (h : List Answered) → Holding h s → known.holds path h
  pub in_form : (h : List Answered) → HoldingInSomeForm h s → known.holds_in_form path h
  pub older : (h : List Answered) → HoldingOlder h s → known.holds_older path h
  pub none : HasNone s → known.is_new path
  pub rows : (rows : Statistics) → statistics_of s.now ≡ rows → known.has_statistics path rows

pub closed_in_memory : (conn : Held MemStore) (path : List ℕ)
    → IsClosedOn (known_of (Some conn)) path (state over_memory conn)
closed_in_memory conn path = record {
  sound = λ sound. (memory_is_clean conn, refl);
  held = λ h holding. holding;
  in_form = λ h holding. holding;
  older = λ h holding. holding;
  none = λ new. new;
  rows = λ rows same. same;
}

-- it holds the history in whatever form
pub some_form : (h : List Answered) (s : State) → Holding h s ⊎ HoldingInSomeForm h s ⊎ HoldingOlder h s
    → HoldingInSomeForm h s
some_form h s (inl held) = in_form h s held
some_form h s (inr (inl holding)) = holding
some_form h s (inr (inr older)) = older_in_form h s older

-- the connection as it was opened and as it was closed
module _ (before after : Databases) (path : List ℕ) (begin end : State) (opened : IsOpenedOn before path begin)
    (closed : IsClosedOn after path end) where
  held_so : (h : List Answered) → HoldsInSomeForm before path h → HoldingInSomeForm h begin
  held_so h (inl held) = in_form h begin (opened.held h held)
  held_so h (inr (inl holds)) = opened.in_form h holds
  held_so h (inr (inr older)) = older_in_form h begin (opened.older h older)

  -- the history with which an office is opened
  begins : HasBegun before path → (h : List Answered) × Begins h begin
  begins (inl one) = (one.0, inl (held_so one.0 one.1))
  begins (inr new) = ([], inr (refl, opened.none new))

  -- the statistics are the same
  rows_stay : (HasCleanDisk end → (h : List Answered) → Begins h begin → IsTrue end.is_open
      → statistics_of end.now ≡ statistics_of begin.now) → HasBegun before path → StatisticsStay before after path
  rows_stay same begun sound rows has =
      let s = closed.sound sound in
      let it = begins begun in
      closed.rows rows (same s.0 it.0 it.1 s.1 ∙ opened.rows rows has)

  -- where it shows what it showed, it holds what it held
  form_stays : IsTrue end.is_open → end.now ≡ begin.now → (h : List Answered) → before.holds_in_form path h
      → after.holds_in_form path h
  form_stays is_open same h holds =
      closed.in_form h (same_in_form h begin end (opened.in_form h holds) is_open same)

  older_stays : IsTrue end.is_open → end.now ≡ begin.now → (h : List Answered) → before.holds_older path h
      → after.holds_older path h
  older_stays is_open same h holds = closed.older h (same_older h begin end (opened.older h holds) is_open same)

  none_stays : IsTrue end.is_open → end.now ≡ begin.now → before.is_new path → after.is_new path
  none_stays is_open same new = closed.none (record {
    is_open = is_open;
    schema = ap (λ (db : Database). db.schema) same ∙ (opened.none new).schema;
  })

  -- the history that was held goes on
  pub reported_in : (reported : List Answered) (lost : Option Lost)
      → (HasCleanDisk end → (h : List Answered) → Holding h begin → IsTrue end.is_open → Holding (h ++ reported) end)
      → (HasCleanDisk end → (h : List Answered) → Begins h begin → IsTrue end.is_open → Holding (h ++ reported) end
      ⊎ (NoneAnswered reported lost × (end.now ≡ begin.now)))
      → (HasCleanDisk end → (h : List Answered) → HoldingOlder h begin → IsTrue end.is_open
      → NoneAnswered reported lost × (end.now ≡ begin.now))
      → (HasCleanDisk end → (h : List Answered) → Begins h begin → IsTrue end.is_open
      → statistics_of end.now ≡ statistics_of begin.now) → InDatabase before after path reported lost
  reported_in reported lost held begun older same = record {
    held = λ h holds sound. let s = closed.sound sound in
        closed.held (h ++ reported) (held s.0 h (opened.held h holds) s.1);
    completed = λ h holds sound. let s = closed.sound sound in
        elim (begun s.0 h (inl (opened.in_form h holds)) s.1) [
          | inl holding ↦ inl (closed.held (h ++ reported) holding)
          | inr none ↦ inr (none.0, form_stays s.1 none.1 h holds)
        ];
    older = λ h holds sound. let s = closed.sound sound in
        let none = older s.0 h (opened.older h holds) s.1 in (none.0, older_stays s.1 none.1 h holds);
    made = λ new sound. let s = closed.sound sound in
        elim (begun s.0 [] (inr (refl, opened.none new)) s.1) [
          | inl holding ↦ inl (closed.held reported holding)
          | inr none ↦ inr (none.0, none_stays s.1 none.1 new)
        ];
    statistics = rows_stay same;
  }

  -- memory ran out for the answers: nothing was answered
  pub unanswered_in : (HasCleanDisk end → (h : List Answered) → Begins h begin → Holding h end)
      → (HasCleanDisk end → (h : List Answered) → HoldingOlder h begin → IsTrue end.is_open
      → (end.now ≡ begin.now) × (end.committed ≡ begin.committed))
      → (HasCleanDisk end → (h : List Answered) → Begins h begin → IsTrue end.is_open
      → statistics_of end.now ≡ statistics_of begin.now) → InDatabase before after path [] (Some Memory)
  unanswered_in held older same =
      let more : (h : List Answered) → Holding h end → Holding (h ++ []) end =
      λ h holding. subst (λ k. Holding k end) (sym (append-nil h)) holding in
      reported_in [] (Some Memory)
      (λ clean h holding is_open. more h (held clean h (inl (in_form h begin holding))))
      (λ clean h begins is_open. inl (more h (held clean h begins)))
      (λ clean h holding is_open. ((refl, refl), (older clean h holding is_open).0))
      same

  -- this was shown, or the call was lost, of a database that has tables
  pub looked : {A : Type 0} (text_of : A → Option (List ℕ)) (look : Look) (shown : Result A Lost)
      → (before.is_new path → ⊥)
      → (HasCleanDisk end → (h : List Answered) → HoldingInSomeForm h begin → (office : Office) → IsLegal h office
      → IfOk shown (λ x. IsShown h office look (text_of x)))
      → (HasCleanDisk end → (h : List Answered) → Holding h begin → IsTrue end.is_open → Holding h end)
      → (HasCleanDisk end → (h : List Answered) → HoldingInSomeForm h begin → OnOk shown (Holding h end))
      → (HasCleanDisk end → (h : List Answered) → HoldingInSomeForm h begin → IsTrue end.is_open
      → HoldingInSomeForm h end)
      → (HasCleanDisk end → (h : List Answered) → HoldingOlder h begin
      → IsErr shown × (IsTrue end.is_open → (end.now ≡ begin.now) × (end.committed ≡ begin.committed)))
      → (HasCleanDisk end → (h : List Answered) → Begins h begin → IsTrue end.is_open
      → statistics_of end.now ≡ statistics_of begin.now)
      → IsLookedUp before after path look (result_map_both text_of (λ lost. lost) shown)
  looked text_of look shown tables shows held completed left older same = record {
    of_held = λ h office holds legal sound.
        if_ok_mapped text_of (λ text. IsShown h office look text) shown
        (shows (closed.sound sound).0 h (held_so h holds) office legal);
    held = λ h holds sound. let s = closed.sound sound in
        closed.held h (held s.0 h (opened.held h holds) s.1);
    completed = λ h holds sound.
        if_ok_mapped text_of (λ _. after.holds path h) shown
        (on_ok_weaker shown (closed.held h) (completed (closed.sound sound).0 h (opened.in_form h holds)));
    left = λ h holds sound. let s = closed.sound sound in
        closed.in_form h (left s.0 h (opened.in_form h holds) s.1);
    older = λ h holds sound. let s = closed.sound sound in
        let stays = older s.0 h (opened.older h holds) in
        (is_err_mapped text_of shown stays.0, older_stays s.1 (stays.1 s.1).0 h holds);
    statistics = rows_stay same;
    of_none = λ new. absurd (tables new);
  }

  -- the tables were made those of this version, or were left
  pub migrated_at : (done : Result ⊤ Lost)
      → (HasCleanDisk end → (h : List Answered) → HoldingInSomeForm h begin → OnOk done (Holding h end))
      → (HasCleanDisk end → (h : List Answered) → HoldingInSomeForm h begin → IsTrue end.is_open
      → OnErr done (HoldingInSomeForm h end))
      → (HasCleanDisk end → (h : List Answered) → Holding h begin → IsTrue end.is_open → Holding h end)
      → (HasCleanDisk end → HasNone begin → OnOk done (Holding [] end))
      → (HasCleanDisk end → (h : List Answered) → HoldingInSomeForm h begin → IsTrue end.is_open
      → statistics_of end.now ≡ statistics_of begin.now)
      → (HasCleanDisk end → HasNone begin → IsTrue end.is_open
      → statistics_of end.now ≡ statistics_of begin.now)
      → IsMigrated before after path done
  migrated_at done carried left held made same same_new = record {
    carried = λ h holds sound. on_ok_weaker done (closed.held h)
        (carried (closed.sound sound).0 h (opened.in_form h holds));
    left = λ h holds sound. let s = closed.sound sound in
        on_err_weaker done (closed.in_form h) (left s.0 h (opened.in_form h holds) s.1);
    held = λ h holds sound. let s = closed.sound sound in
        closed.held h (held s.0 h (opened.held h holds) s.1);
    made = λ new sound. on_ok_weaker done (closed.held [])
        (made (closed.sound sound).0 (opened.none new));
    statistics = rows_stay (λ clean h begins is_open. elim begins [
      | inl holding ↦ same clean h holding is_open
      | inr none ↦ same_new clean none.1 is_open
    ]);
  }

-- databases of which nothing is known

pub nothing_reported : (path : List ℕ) (reported : List Answered) (lost : Option Lost)
    → InDatabase nothing_known nothing_known path reported lost
nothing_reported path reported lost = record {
  held = λ h holds sound. absurd holds;
  completed = λ h holds sound. absurd holds;
  older = λ h holds sound. absurd holds;
  made = λ new sound. absurd new;
  statistics = λ begun sound. absurd sound;
}
