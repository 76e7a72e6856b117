-- What a query leaves of a connection, and what follows for the last commit.
use Rattle.store_tables.proofs.Common.{◌≡◌, ◌⊎◌, inl, inr, ℕ, List, false, Option, None, Some, Result, Ok, Err, refl}
use Rattle.store_tables.proofs.Common.{sym, subst, IsTrue, OnOk, IfOk, cases_Bool, Error, Row, understood, State}
use Rattle.store_tables.proofs.Common.{ExecutesInside, state, Schema, IsPlain}
use Rattle.std.specs.Prelude.{IfErr}
use Rattle.sqlite.specs.Clock.{timed}
use Rattle.sqlite.specs.State.{HasCleanDisk, IsUnchanged, IsRolledBack, KeepsCommit, Fails, IsNotRun, FailsToQuery}
use Rattle.sqlite.specs.State.{FailsToShow, RunsCommand, Shown, ShowsRows, IsTooLate, Survives, CommitsShowing}
use Rattle.sqlite.specs.declared.transaction.Transaction.{Transaction}
use Rattle.sqlite_trees.specs.declared.store.Store.{Ghosts}
use Rattle.store_tables.specs.Frames.{ReadsOnly}
use Rattle.store_tables.specs.Schema.{IsCurrentSchema}
use Rattle.store_tables.specs.Statements.{ChangesNothing, LeavesNothing}
use Rattle.sqlite.proofs.Callers.{never_commits}
use Rattle.sqlite_resolve.specs.declared.compiled.Compiled.{Compiled}
use Rattle.sqlite_schema.specs.declared.command.Returning.{Returning}

pub unchanged_keeps : (old new : State) → IsUnchanged old new → KeepsCommit old new
unchanged_keeps old new u = record { was_open = λ _. u.0.was_open; committed = λ _. u.0.committed_is }

pub rolled_keeps : (old new : State) → IsRolledBack old new → KeepsCommit old new
rolled_keeps old new r = record { was_open = r.was_open; committed = λ open_now. (r.undone open_now).1 }

fails_keeps : (old new : State) (big : Type 0) (e : Error) → Fails old new big e → KeepsCommit old new
fails_keeps old new big e h = rolled_keeps old new h.3

pub shows_unchanged : (sql : List ℕ) (params : Row) (old new : State) (rows : List Row)
    → IsPlain (understood old.now.schema sql) → Shown sql params old new rows → IsUnchanged old new
unfolding Shown
shows_unchanged sql params old new rows plain h =
    let none = (subst IsPlain h.1.is plain).0 in
    let full = timed params h.0.formats h.1.now in
    let it = subst (ShowsRows old new sql h.0 full rows) none h.2 in
    it.3

ran_keeps : (old new : State) (sql : List ℕ) (c : Compiled) (params : Row) (e : Error)
    → RunsCommand old new sql c params (Err e) → KeepsCommit old new
ran_keeps old new sql c params e (inl refused) = unchanged_keeps old new refused.1
ran_keeps old new sql c params e (inr failed) = fails_keeps old new _ e failed

not_shown_keeps : (old new : State) (sql : List ℕ) (c : Compiled) (params : Row) (e : Error)
    (returning : Option Returning) → FailsToShow old new sql c params e returning → KeepsCommit old new
not_shown_keeps old new sql c params e None h = unchanged_keeps old new h.3
not_shown_keeps old new sql c params e (Some what) h = ran_keeps old new sql c params e h

pub not_run_keeps : (sql : List ℕ) (params : Row) (old new : State) (e : Error) → IsNotRun old new sql params e
    → KeepsCommit old new
unfolding IsNotRun
not_run_keeps sql params old new e (inl h) = unchanged_keeps old new h.1
not_run_keeps sql params old new e (inr h) = fails_keeps old new _ e h

pub query_keeps : (sql : List ℕ) (params : Row) (old new : State) (e : Error) → FailsToQuery sql params old new e
    → KeepsCommit old new
unfolding FailsToQuery
query_keeps sql params old new e (inl h) = not_run_keeps sql params old new e h
query_keeps sql params old new e (inr h) = not_shown_keeps old new sql h.0 _ e h.0.returning h.2

-- what a query inside a transaction leaves of the last commit
pub query_inside_keeps : (sql : List ℕ) (params : Row) (old new : State) {X : Type 0} (r : Result X Error)
    → OnOk r (IsUnchanged old new)
    → IfErr r (λ e. FailsToQuery sql params old new e ⊎ IsTooLate sql params old new e) → KeepsCommit old new
query_inside_keeps sql params old new (Ok x) same h = unchanged_keeps old new same
query_inside_keeps sql params old new (Err e) same (inl h) = query_keeps sql params old new e h
query_inside_keeps sql params old new (Err e) same (inr h) = unchanged_keeps old new h.5

pub query_inside_same : {X : Type 0} (rows_of : X → List Row) (sql : List ℕ) (params : Row) (old new : State)
    (r : Result X Error) → IsPlain (understood old.now.schema sql)
    → IfOk r (λ rows. Shown sql params old new (rows_of rows)) → OnOk r (IsUnchanged old new)
query_inside_same rows_of sql params old new (Ok rows) plain h =
    shows_unchanged sql params old new (rows_of rows) plain h
query_inside_same rows_of sql params old new (Err e) plain h = tt

-- a plain query on an office's tables only reads
pub reads_only : {S X : Type 0} (g : Ghosts S) (old new : Transaction S) (rows_of : X → List Row) (sql : List ℕ)
    (params : Row) (r : Result X Error)
    → ((s : Schema) → IsCurrentSchema s → IsPlain (understood s sql)) → new.conn.ghost_name ≡ old.conn.ghost_name
    → (HasCleanDisk (state g new.conn.now)
    → IfOk r (λ rows. Shown sql params (state g old.conn.now) (state g new.conn.now) (rows_of rows)))
    → (HasCleanDisk (state g new.conn.now)
    → IfErr r (λ e. FailsToQuery sql params (state g old.conn.now) (state g new.conn.now) e
    ⊎ IsTooLate sql params (state g old.conn.now) (state g new.conn.now) e))
    → LeavesNothing (state g old.conn.now) (state g new.conn.now) → ReadsOnly g old new r
reads_only g old new rows_of sql params r plain name ok err left =
    let before = state g old.conn.now in
    let after = state g new.conn.now in
    let same : ChangesNothing r before after =
    λ clean office. query_inside_same rows_of sql params before after r (plain _ office.schema) (ok clean) in
    record {
      same_reference = name;
      same = same;
      kept = λ clean office. query_inside_keeps sql params before after r (same clean office) (err clean);
      survives = left;
    }

-- a query outside a transaction keeps the last commit, also where it fails
pub query_alone_keeps : (sql : List ℕ) (params : Row) (old new : State) {X : Type 0} (r : Result X Error)
    → OnOk r (IsUnchanged old new) → IfErr r (FailsToQuery sql params old new) → KeepsCommit old new
query_alone_keeps sql params old new (Ok x) same h = unchanged_keeps old new same
query_alone_keeps sql params old new (Err e) same h = query_keeps sql params old new e h

-- and a crash leaves nothing new
pub query_survives : (sql : List ℕ) (params : Row) (old new : State) → IsPlain (understood old.now.schema sql)
    → Survives old new (CommitsShowing sql params old) → Survives old new (λ _. ⊥)
query_survives sql params old new plain s = record {
  clean = s.clean;
  shield = s.shield;
  counts = s.counts;
  limit = s.limit;
  closes = s.closes;
  crash = λ clean db left. elim (s.crash clean db left)
      [ inl was ↦ inl was | inr made ↦ inr (never_commits sql params old db plain made) ];
}

inside_keeps : (sql : List ℕ) (params : Row) (old new : State) (r : Result ℕ Error)
    → ExecutesInside 0 sql params old new r → KeepsCommit old new
inside_keeps sql params old new (Ok count) h =
    record { was_open = λ _. h.1.was_open; committed = λ _. h.1.committed_is }
inside_keeps sql params old new (Err e) (inl (ran, inl same)) = unchanged_keeps old new same
inside_keeps sql params old new (Err e) (inl (ran, inr back)) = rolled_keeps old new back
inside_keeps sql params old new (Err e) (inr ends) = unchanged_keeps old new ends.2

-- what a statement inside a transaction leaves of the last commit, whatever its text: `search` reads a long text letter
-- by letter, and gives up
pub execute_keeps : (sql : List ℕ) (params : Row) (old new : State) (r : Result ℕ Error)
    → (old.in_transaction ≡ false → new ≡ old)
    → (IsTrue old.in_transaction → ExecutesInside 0 sql params old new r) → KeepsCommit old new
execute_keeps sql params old new r ended ran = elim (cases_Bool old.in_transaction) [
  | inl mode ↦ inside_keeps sql params old new r (ran mode)
  | inr none ↦ subst (KeepsCommit old) (sym (ended none)) (record { was_open = λ o. o; committed = λ _. refl })
]
