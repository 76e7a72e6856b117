use Rattle.store.proofs.Common.{◌≡◌, true, sym, subst, arith, rules, ◌≢◌, OnOk, on_ok_weaker, state, HasCleanDisk}
use Rattle.store.proofs.Common.{Survives, survives_begin, survives_then, IsOfficeWith, schema_of, SchemaForm, Foreign}
use Rattle.store.specs.Opening.{HasCommitted, IsCarried, MayCarry}
use Rattle.store.proofs.TablesInForm.{carried_as, committed_so}
use Rattle.store.proofs.migrating.carry_all.Goals as goal

pub returns-clause-survives : goal.returns-clause-survives
returns-clause-survives g c =
    let old = state g.S.Store c.args.conn.now in
    let last = state g.S.Store c.carry.new.tx.conn.now in
    let end = c.commit.new.self.0 in
    let same : end ≡ c.conn-2-1.given.0 = search rules in
    let begun = c.transaction-tx.ensures.begun in
    let inside = survives_begin g.S.Store c.args.conn.now last (λ _. ⊥) (rw begun at c.carry.ensures.frame.survives) in
    let carried = λ (clean : HasCleanDisk (state g.S.Store end)) (form : SchemaForm) (known : form ≢ Foreign)
    (was : IsOfficeWith (schema_of form) old.now).
    let clean_last : HasCleanDisk last = omega (arith, c.commit.ensures.survives.clean, clean) in
    carried_as c.form_of-form.result form (state g.S.Store (record c.args.conn.now { in_transaction = true })) last
    (c.form_of-form.ensures.known form known was.schema_is)
    (rw begun at (c.in_ok-carry.ensures.frame.office clean_last))
    (rw begun at (c.in_ok-carry.ensures.frame.schema_is clean_last))
    (rw begun at (c.in_ok-carry.ensures.frame.statistics clean_last))
    (rw begun at (c.in_ok-carry.ensures.held clean_last)) was in
    subst (λ v. Survives old (state g.S.Store v) (MayCarry old.now)) same
    (survives_then old last (state g.S.Store end) (λ _. ⊥) (λ db. db ≡ last.now.trees) (MayCarry old.now)
    (λ clean db never. absurd never)
    (λ clean db same form known was. (last.now, carried clean form known was, same)) inside c.commit.ensures.survives)

pub returns-clause-carried : goal.returns-clause-carried
returns-clause-carried g c clean form known was =
    let old = state g.S.Store c.args.conn.now in
    let last = state g.S.Store c.carry.new.tx.conn.now in
    let end = c.commit.new.self.0 in
    let same : end ≡ c.conn-2-1.given.0 = search rules in
    let clean_end : HasCleanDisk (state g.S.Store end) =
    subst (λ v. HasCleanDisk (state g.S.Store v)) (sym same) clean in
    let clean_last : HasCleanDisk last = omega (arith, c.commit.ensures.survives.clean, clean_end) in
    let begun = c.transaction-tx.ensures.begun in
    let carried = carried_as c.form_of-form.result form (state g.S.Store (record c.args.conn.now { in_transaction = true }))
    last (c.form_of-form.ensures.known form known was.schema_is)
    (rw begun at (c.in_ok-carry.ensures.frame.office clean_last))
    (rw begun at (c.in_ok-carry.ensures.frame.schema_is clean_last))
    (rw begun at (c.in_ok-carry.ensures.frame.statistics clean_last))
    (rw begun at (c.in_ok-carry.ensures.held clean_last)) was in
    subst (λ v. OnOk c.commit.result (HasCommitted (IsCarried form old.now.trees) (state g.S.Store v))) same
    (on_ok_weaker c.commit.result
    (λ done. committed_so (IsCarried form old.now.trees) last (state g.S.Store end) carried done.1)
    (c.commit.ensures.ok clean_end))
