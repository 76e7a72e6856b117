-- A query inside a transaction commits nothing, whatever tables there are.
use Rattle.store.proofs.Common.{◌∙◌, ◌⊎◌, ap, ℕ, List, Option, None, Some, Result, Ok, Err, inl, inr, IfErr, IfOk}
use Rattle.store.proofs.Common.{IsTrue, Row, State, KeepsCommit, Error, unchanged_keeps}
use Rattle.std.proofs.Common.{cond}
use Rattle.sqlite.specs.State.{FailsToQuery, IsTooLate, Shown, ShowsRows}
use Rattle.sqlite_resolve.specs.declared.compiled.Compiled.{Compiled}
use Rattle.sqlite_schema.specs.declared.command.Returning.{Returning}
use Rattle.store_tables.proofs.Keeping.{query_keeps}

-- nor does a write whose rows RETURNING shows
shown_keeps : (old new : State) (sql : List ℕ) (c : Compiled) (params : Row) (rows : List Row)
    (returning : Option Returning) → IsTrue old.in_transaction → ShowsRows old new sql c params rows returning
    → KeepsCommit old new
shown_keeps old new sql c params rows None inside h = unchanged_keeps old new h.3
shown_keeps old new sql c params rows (Some what) inside h = record {
  was_open = λ _. h.1.shown.was_open;
  committed = λ _. h.1.shown.committed_is ∙ ap (λ b. cond b old.committed new.now) inside;
}

pub asked_keeps : {X : Type 0} (rows_of : X → List Row) (sql : List ℕ) (params : Row) (old new : State)
    (r : Result X Error) → IsTrue old.in_transaction → IfOk r (λ x. Shown sql params old new (rows_of x))
    → IfErr r (λ e. FailsToQuery sql params old new e ⊎ IsTooLate sql params old new e) → KeepsCommit old new
unfolding Shown
asked_keeps rows_of sql params old new (Ok x) inside ok err =
    shown_keeps old new sql ok.0 _ (rows_of x) ok.0.returning inside ok.2
asked_keeps rows_of sql params old new (Err e) inside ok (inl h) = query_keeps sql params old new e h
asked_keeps rows_of sql params old new (Err e) inside ok (inr h) = unchanged_keeps old new h.5
