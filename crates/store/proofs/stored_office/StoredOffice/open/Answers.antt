use Rattle.store.proofs.Common.{[], inl, inr, not, refl, sym, ap, subst, ◌∙◌, rules, Database, state, IsCurrentSchema}
use Rattle.store.proofs.Common.{schema_13, schema_of, Rows}
use Rattle.store_tables.specs.Schema.{schema_9}
use Rattle.store.specs.Holding.{Keeps}
use Rattle.store.specs.Opening.{HasOffice, HasTables, MayComplete}
use Rattle.store.proofs.TablesInForm.{completed, left_in_form, office_in_form, schema_in_form, statistics_completed}
use Rattle.store.proofs.TablesInForm.{with_form}
use Rattle.store.proofs.AfterCrash.{survives_more}
use Rattle.store.proofs.Same.{held_tables}
use Rattle.store.proofs.OpenedTables.{never_opened_9, new_holding, new_keeps}
use Rattle.store.proofs.stored_office.StoredOffice.open.Goals as goal

pub returns-in-Ok-clause-opened : goal.returns-in-Ok-clause-opened
returns-in-Ok-clause-opened g c =
    let old = state g.S.Store c.args.conn in
    let now = state g.S.Store c.make_ready.new.conn in
    let ready = c.in-Ok.ensures.ready in
    let schema_of_office = λ (office : HasOffice old).
    c.knows_tables.ensures office.is_open (schema_of office.form) office.sound in
    let all = λ (tables : HasTables old).
    subst IsCurrentSchema (sym (c.knows_tables.ensures tables.is_open tables.office.schema tables.office.sound))
    tables.office.current in
    record {
      working = refl;
      taken = ready.taken;
      tables = ready.tables;
      none_come = ready.none_come;
      second = λ clean office. ready.second clean (schema_in_form old office (schema_of_office office));
      made = λ clean no_table.
          let made = ready.made clean no_table.schema in (
            new_holding now made.0 made.2,
            λ db left.
                let committed = c.leaves_committed-in-Ok.ensures made.2 db left in
                subst (Keeps []) (sym (committed ∙ ap (λ (d : Database). d.trees) made.1))
                (new_keeps now.now made.0),
          );
      new = λ clean no_table. ready.made clean no_table.schema;
      same = λ clean tables. ready.same clean (all tables);
      grown = λ clean tables.
          ready.grown clean (with_form Rows old tables (c.knows_tables.ensures tables.is_open schema_13 tables.sound));
      bodies = λ clean tables.
          never_opened_9 old.now.schema (c.knows_tables.ensures tables.is_open schema_9 tables.sound)
          (ready.taken clean);
      completed = λ clean h holding.
          let office = office_in_form h old holding in
          let schema = schema_of_office office in
          let autocommit = c.is_autocommit-settled.ensures in
          let settled = sym (autocommit.settled (autocommit.value ∙ ap not c.requires) holding.is_open) in
          let second = ready.second clean (schema_in_form old office schema) in
          (completed h old now holding schema settled second (ready.same clean) (ready.grown clean)).0;
      statistics = λ clean h holding.
          let office = office_in_form h old holding in
          let schema = schema_of_office office in
          let second = ready.second clean (schema_in_form old office schema) in
          statistics_completed h old now holding schema second (ready.same clean) (ready.grown clean);
    }

pub returns-in-Err-clause-opened : goal.returns-in-Err-clause-opened
returns-in-Err-clause-opened g c =
    let old = state g.S.Store c.args.conn in
    let unready = c.in-Err.ensures.unready in
    let schema_of_office = λ (office : HasOffice old).
    c.knows_tables.ensures office.is_open (schema_of office.form) office.sound in
    record {
      settled = search rules;
      back = search rules;
      named = search rules;
      unmade = λ clean no_table db left.
          let made = c.make_ready.ensures.new_survives no_table.schema in
          elim (made.crash clean db left) [
            | inl was ↦ inl (c.leaves_committed.ensures no_table.is_open db was)
            | inr made ↦ inr (subst (Keeps []) (sym made.2) (new_keeps made.0 made.1), made)
          ];
      older = λ clean office. unready.older clean (schema_in_form old office (schema_of_office office));
      newer = λ clean office. unready.newer clean (schema_in_form old office (schema_of_office office));
    }

pub returns-in-Ok-clause-left : goal.returns-in-Ok-clause-left
returns-in-Ok-clause-left g c =
    let old = state g.S.Store c.args.conn in
    let schema_of_office = λ (office : HasOffice old).
    c.knows_tables.ensures office.is_open (schema_of office.form) office.sound in
    let all = λ (tables : HasTables old).
    subst IsCurrentSchema (sym (c.knows_tables.ensures tables.is_open tables.office.schema tables.office.sound))
    tables.office.current in
    let stays = λ (tables : HasTables old).
    survives_more old (state g.S.Store c.make_ready.new.conn) (MayComplete old.now) (λ _. ⊥)
    (λ db may. may.1.not_all (all tables)) (c.make_ready.ensures.survives (inr (inr (all tables)))) in
    record {
      nothing_new = stays;
      completes = λ office. c.make_ready.ensures.survives (schema_in_form old office (schema_of_office office));
      held = λ clean h holding db left.
          let autocommit = c.is_autocommit-settled.ensures in
          let settled = autocommit.settled (autocommit.value ∙ ap not c.requires) holding.is_open in
          elim ((stays (held_tables h old holding)).crash clean db left) [
            | inl was ↦ subst (Keeps h) (ap (λ (d : Database). d.trees) settled
                ∙ sym (c.leaves_committed.ensures holding.is_open db was)) holding.keeps
            | inr never ↦ absurd never
          ];
      in_form = λ clean h holding.
          let office = office_in_form h old holding in
          let schema = schema_of_office office in
          left_in_form h old (state g.S.Store c.make_ready.new.conn) holding schema
          (λ db was. c.leaves_committed.ensures holding.is_open db was)
          (c.make_ready.ensures.survives (schema_in_form old office schema)) clean;
    }

pub returns-in-Err-clause-left : goal.returns-in-Err-clause-left
returns-in-Err-clause-left g c =
    let old = state g.S.Store c.args.conn in
    let schema_of_office = λ (office : HasOffice old).
    c.knows_tables.ensures office.is_open (schema_of office.form) office.sound in
    let all = λ (tables : HasTables old).
    subst IsCurrentSchema (sym (c.knows_tables.ensures tables.is_open tables.office.schema tables.office.sound))
    tables.office.current in
    let stays = λ (tables : HasTables old).
    survives_more old (state g.S.Store c.make_ready.new.conn) (MayComplete old.now) (λ _. ⊥)
    (λ db may. may.1.not_all (all tables)) (c.make_ready.ensures.survives (inr (inr (all tables)))) in
    record {
      nothing_new = stays;
      completes = λ office. c.make_ready.ensures.survives (schema_in_form old office (schema_of_office office));
      held = λ clean h holding db left.
          let autocommit = c.is_autocommit-settled.ensures in
          let settled = autocommit.settled (autocommit.value ∙ ap not c.requires) holding.is_open in
          elim ((stays (held_tables h old holding)).crash clean db left) [
            | inl was ↦ subst (Keeps h) (ap (λ (d : Database). d.trees) settled
                ∙ sym (c.leaves_committed.ensures holding.is_open db was)) holding.keeps
            | inr never ↦ absurd never
          ];
      in_form = λ clean h holding.
          let office = office_in_form h old holding in
          let schema = schema_of_office office in
          left_in_form h old (state g.S.Store c.make_ready.new.conn) holding schema
          (λ db was. c.leaves_committed.ensures holding.is_open db was)
          (c.make_ready.ensures.survives (schema_in_form old office schema)) clean;
    }
