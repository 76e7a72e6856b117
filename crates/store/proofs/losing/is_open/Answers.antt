use Rattle.store.proofs.Common.{◌≡◌, inl, inr, List, [], ℕ, not, Ok, Err, Result, sym, ap, subst, ◌∙◌, rules, IfErr}
use Rattle.store.proofs.Common.{IfOk, IsTrue, state, Row, HasCleanDisk, IsUnchanged, KeepsCommit, State, Error}
use Rattle.store.proofs.Common.{unchanged_keeps}
use Rattle.sqlite.specs.State.{IsNotRun, store_error}
use Rattle.sqlite.specs.declared.error.Error.TheVariants.{SqlInputError}
use Rattle.sqlite_resolve.specs.declared.error.CompileError.{CompileError}
use Rattle.sqlite_trees.specs.declared.error.StoreError.{StoreError}
use Rattle.sqlite_trees.specs.declared.error.StoreError.TheVariants.{OutOfMemory}
use Rattle.store_tables.proofs.Keeping.{not_run_keeps}
use Rattle.store.proofs.losing.is_open.Goals as goal

-- a text that is prepared, or is not, commits nothing
prepared_keeps : {X : Type 0} (Says : X → Type 0) (sql : List ℕ) (old new : State) (r : Result X Error)
    → IfOk r (λ x. Says x × IsUnchanged old new)
    → IfErr r (λ e. (params : Row) → IsNotRun old new sql params e) → KeepsCommit old new
prepared_keeps Says sql old new (Ok x) ok err = unchanged_keeps old new ok.1
prepared_keeps Says sql old new (Err e) ok err = not_run_keeps sql [] old new e (err [])

-- no failure of the store is that a text is no statement
no_failure : (cause : StoreError) (fault : CompileError) → SqlInputError fault ≡ store_error cause → ⊥
no_failure OutOfMemory fault same = cc
no_failure it fault same = cc

-- a connection that refuses a text for what it is is open
refused_open : (sql : List ℕ) (params : Row) (old new : State) (fault : CompileError)
    → IsNotRun old new sql params (SqlInputError fault) → IsTrue new.is_open
unfolding IsNotRun
refused_open sql params old new fault (inl refused) = refused.1.0.is_open
refused_open sql params old new fault (inr failed) = absurd (no_failure failed.0 fault failed.1)

opened_by : {X : Type 0} (sql : List ℕ) (old new : State) (r : Result X Error)
    → IfErr r (λ e. (params : Row) → IsNotRun old new sql params e) → (fault : CompileError)
    → r ≡ Err (SqlInputError fault) → IsTrue new.is_open
opened_by sql old new (Ok x) err fault same = absurd (cc)
opened_by sql old new (Err e) err fault same =
    let it : e ≡ SqlInputError fault = cc in
    refused_open sql [] old new fault (subst (IsNotRun old new sql []) it (err []))

pub returns-clause-open : goal.returns-clause-open
returns-clause-open g c clean refused =
    let why = c.is_refused.ensures refused in
    opened_by _ (state g.S.Store c.args.conn.now) (state g.S.Store c.prepare-prepared.new.self)
    c.prepare-prepared.result (c.prepare-prepared.ensures.err clean) why.0 why.1

pub returns-clause-frame : goal.returns-clause-frame
returns-clause-frame g c =
    let old = state g.S.Store c.args.conn.now in
    let prepared = state g.S.Store c.prepare-prepared.new.self in
    let keeps = λ (clean : HasCleanDisk prepared).
    prepared_keeps _ _ old prepared c.prepare-prepared.result (c.prepare-prepared.ensures.ok clean)
    (c.prepare-prepared.ensures.err clean) in
    let settled_old = c.is_autocommit-settled_before.ensures in
    let settled_new = c.is_autocommit-settled.ensures in
    record {
      autocommit = search rules;
      was_open = λ clean is_open. (keeps clean).was_open is_open;
      same = λ clean is_open. (
        settled_new.settled (settled_new.value ∙ ap not (c.prepare-prepared.ensures.mode c.requires)) is_open
            ∙ (keeps clean).committed is_open
            ∙ sym (settled_old.settled (settled_old.value ∙ ap not c.requires) ((keeps clean).was_open is_open)),
        (keeps clean).committed is_open,
      );
      survives = search rules;
    }
