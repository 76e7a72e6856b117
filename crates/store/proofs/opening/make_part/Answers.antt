use Rattle.store.proofs.Common.{◌≡◌, ◌∙◌, ap, sym, subst, arith, rules, OnOk, on_ok_weaker, Database, state}
use Rattle.store.proofs.Common.{HasCleanDisk, Survives, Trees, survives_begin, survives_then, schema_13, IsOfficeWith}
use Rattle.store_tables.specs.Schema.{office_schema}
use Rattle.store.specs.Opening.{AreTreesOf, HasCommitted, IsGrown}
use Rattle.store.proofs.TablesInForm.{grown_done, grown_so}
use Rattle.store.proofs.opening.make_part.Goals as goal

pub returns-clause-grown : goal.returns-clause-grown
returns-clause-grown g c clean was =
    let old = state g.S.Store c.args.conn.now in
    let last = state g.S.Store c.create_part.new.tx.conn.now in
    let end = c.commit.new.self.0 in
    let same : end ≡ c.conn-2-1.given.0 = search rules in
    let clean_end : HasCleanDisk (state g.S.Store end) =
    subst (λ v. HasCleanDisk (state g.S.Store v)) (sym same) clean in
    let clean_last : HasCleanDisk last = omega (arith, c.commit.ensures.survives.clean, clean_end) in
    let begun = c.transaction-tx.ensures.begun in
    let grown = (rw begun at (c.in_ok-create_part.ensures.grown clean_last)) was in
    subst (λ v. OnOk c.commit.result (HasCommitted (IsGrown old.now.trees) (state g.S.Store v))) same
    (on_ok_weaker c.commit.result (λ done. grown_done _ last (state g.S.Store end) grown done.1)
    (c.commit.ensures.ok clean_end))

pub returns-clause-tables : goal.returns-clause-tables
returns-clause-tables g c clean has =
    let last = state g.S.Store c.create_part.new.tx.conn.now in
    let end = c.commit.new.self.0 in
    let same : end ≡ c.conn-2-1.given.0 = search rules in
    let clean_end : HasCleanDisk (state g.S.Store end) =
    subst (λ v. HasCleanDisk (state g.S.Store v)) (sym same) clean in
    let clean_last : HasCleanDisk last = omega (arith, c.commit.ensures.survives.clean, clean_end) in
    let begun = c.transaction-tx.ensures.begun in
    let made = (rw begun at (c.in_ok-create_part.ensures.extended clean_last)) has in
    subst (λ v. OnOk c.commit.result ((state g.S.Store v).now.schema ≡ office_schema)) same
    (on_ok_weaker c.commit.result (λ done. ap (λ (db : Database). db.schema) done.1.now_is
    ∙ made) (c.commit.ensures.ok clean_end))

pub returns-clause-survives : goal.returns-clause-survives
returns-clause-survives g c =
    let old = state g.S.Store c.args.conn.now in
    let last = state g.S.Store c.create_part.new.tx.conn.now in
    let end = c.commit.new.self.0 in
    let same : end ≡ c.conn-2-1.given.0 = search rules in
    let begun = c.transaction-tx.ensures.begun in
    let inside = survives_begin g.S.Store c.args.conn.now last (λ _. ⊥) (rw begun at c.create_part.ensures.frame.survives) in
    let MayBe : Trees → Type 0 = λ trees. IsOfficeWith schema_13 old.now → AreTreesOf (IsGrown old.now.trees) trees in
    let grown = λ (clean : HasCleanDisk (state g.S.Store end)) (was : IsOfficeWith schema_13 old.now).
    let clean_last : HasCleanDisk last = omega (arith, c.commit.ensures.survives.clean, clean) in
    grown_so _ last ((rw begun at (c.in_ok-create_part.ensures.grown clean_last)) was) in
    subst (λ v. Survives old (state g.S.Store v) MayBe) same
    (survives_then old last (state g.S.Store end) (λ _. ⊥) (λ db. db ≡ last.now.trees) MayBe
    (λ clean db never. absurd never) (λ clean db same was. (last.now, grown clean was, same)) inside
    c.commit.ensures.survives)
