use Rattle.store.proofs.Common.{[], inl, inr, not, refl, sym, ap, subst, ◌∙◌, rules, Database, state, IsCurrentSchema}
use Rattle.store.proofs.Common.{schema_13, schema_of, Rows}
use Rattle.store.specs.Holding.{Keeps}
use Rattle.store.specs.Opening.{HasOffice, HasTables, MayMigrate}
use Rattle.store.proofs.TablesInForm.{left_migrating, migrated, none_migrates, office_in_form, schema_in_form}
use Rattle.store.proofs.TablesInForm.{statistics_migrated, with_form}
use Rattle.store.proofs.AfterCrash.{survives_more}
use Rattle.store.proofs.OpenedTables.{new_holding, new_keeps}
use Rattle.store.proofs.stored_office.StoredOffice.migrate.Goals as goal

pub returns-in-Ok-clause-opened : goal.returns-in-Ok-clause-opened
returns-in-Ok-clause-opened g c =
    let old = state g.S.Store c.args.conn in
    let now = state g.S.Store c.make_current.new.conn in
    let current = c.in-Ok.ensures.current in
    let schema_of_office = λ (office : HasOffice old).
    c.knows_tables.ensures office.is_open (schema_of office.form) office.sound in
    let all = λ (tables : HasTables old).
    subst IsCurrentSchema (sym (c.knows_tables.ensures tables.is_open tables.office.schema tables.office.sound))
    tables.office.current in
    record {
      working = refl;
      taken = search rules;
      known = λ clean office. current.known clean office.form office.known (schema_of_office office);
      made = λ clean no_table.
          let made = current.made clean no_table.schema in (
            new_holding now made.0 made.2,
            λ db left.
                let committed = c.leaves_committed-in-Ok.ensures made.2 db left in
                subst (Keeps []) (sym (committed ∙ ap (λ (d : Database). d.trees) made.1))
                (new_keeps now.now made.0),
          );
      new = λ clean no_table. current.made clean no_table.schema;
      same = λ clean tables. current.same clean (all tables);
      grown = λ clean tables second.
          let schema = c.knows_tables.ensures tables.is_open schema_13 tables.sound in
          current.grown clean (with_form Rows old tables schema) second;
      migrated = λ clean h holding.
          let schema = schema_of_office (office_in_form h old holding) in
          let autocommit = c.is_autocommit-settled.ensures in
          let settled = sym (autocommit.settled (autocommit.value ∙ ap not c.requires) holding.is_open) in
          let kept = migrated h old now holding schema settled (current.same clean) (current.grown clean)
          (current.carried clean) in (
            kept.0,
            λ db left.
                let committed = c.leaves_committed-in-Ok.ensures kept.0.is_open db left in
                subst (Keeps h) (sym (committed ∙ ap (λ (d : Database). d.trees) kept.1)) kept.0.keeps,
          );
      statistics = λ clean h holding.
          statistics_migrated h old now holding (schema_of_office (office_in_form h old holding)) (current.same clean)
          (current.grown clean) (current.carried clean);
    }

pub returns-in-Err-clause-opened : goal.returns-in-Err-clause-opened
returns-in-Err-clause-opened g c =
    let old = state g.S.Store c.args.conn in
    let lost = c.in-Err.ensures.not_current in
    let schema_of_office = λ (office : HasOffice old).
    c.knows_tables.ensures office.is_open (schema_of office.form) office.sound in
    record {
      given_back = record {
        settled = search rules;
        back = search rules;
        named = search rules;
        unmade = λ clean no_table db left.
            let made = c.make_current.ensures.new_survives no_table.schema in
            elim (made.crash clean db left) [
              | inl was ↦ inl (c.leaves_committed.ensures no_table.is_open db was)
              | inr made ↦ inr (subst (Keeps []) (sym made.2) (new_keeps made.0 made.1), made)
            ];
        older = λ clean office older. absurd (lost.never_older older);
        newer = λ clean office. lost.newer clean (schema_in_form old office (schema_of_office office));
      };
      never_older = lost.never_older;
      newer_stays = λ office newer.
          survives_more old (state g.S.Store c.make_current.new.conn) (MayMigrate old.now) (λ _. ⊥)
          (λ db may. none_migrates old.now db newer may)
          (c.make_current.ensures.survives (schema_in_form old office (schema_of_office office)));
    }

pub returns-in-Ok-clause-left : goal.returns-in-Ok-clause-left
returns-in-Ok-clause-left g c clean h holding =
    let old = state g.S.Store c.args.conn in
    let office = office_in_form h old holding in
    let schema = c.knows_tables.ensures office.is_open (schema_of office.form) office.sound in
    left_migrating h old (state g.S.Store c.make_current.new.conn) holding schema
    (λ db was. c.leaves_committed.ensures holding.is_open db was)
    (c.make_current.ensures.survives (schema_in_form old office schema)) clean

pub returns-in-Err-clause-left : goal.returns-in-Err-clause-left
returns-in-Err-clause-left g c clean h holding =
    let old = state g.S.Store c.args.conn in
    let office = office_in_form h old holding in
    let schema = c.knows_tables.ensures office.is_open (schema_of office.form) office.sound in
    left_migrating h old (state g.S.Store c.make_current.new.conn) holding schema
    (λ db was. c.leaves_committed.ensures holding.is_open db was)
    (c.make_current.ensures.survives (schema_in_form old office schema)) clean
