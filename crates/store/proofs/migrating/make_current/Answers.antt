use Rattle.store.proofs.Common.{inl, inr, ap, sym, subst, ◌∙◌, arith, rules, on_ok_weaker, Database, state}
use Rattle.store.proofs.Common.{HasCleanDisk, IsUnchanged, survives_then, IsCurrentSchema, IsOfficeSchema, tables_of}
use Rattle.store.specs.Opening.{MayCarry, MayGrow, MayMigrate}
use Rattle.store.proofs.TablesInForm.{first_of_form, form_schema, older_marks, older_or_second, second_of_form}
use Rattle.store.proofs.OpenedTables.{apart, apart_13, none_of_office}
use Rattle.store.proofs.migrating.make_current.Goals as goal

-- ---- no table

pub returns-then-is_new-clause-current : goal.returns-then-is_new-clause-current
returns-then-is_new-clause-current g c =
    let no_table = c.is_new.ensures.0 c.if-is_new.true in
    record {
      taken = search rules;
      known = λ clean form known has. absurd (none_of_office _ no_table (form_schema form known _ has));
      made = search rules;
      same = λ clean has second. absurd (apart _ no_table has);
      grown = λ clean has second. absurd (apart_13 (sym no_table ∙ has.schema_is));
      carried = λ clean form known has first. absurd (none_of_office _ no_table (form_schema form known _ has.schema_is));
    }

pub returns-then-is_new-clause-survives : goal.returns-then-is_new-clause-survives
returns-then-is_new-clause-survives g c has = absurd (none_of_office _ (c.is_new.ensures.0 c.if-is_new.true) has)

-- ---- of the first profile: they are carried over

pub returns-in_ok-carry_all-in_default-clause-current : goal.returns-in_ok-carry_all-in_default-clause-current
returns-in_ok-carry_all-in_default-clause-current g c =
    let old = state g.S.Store c.args.conn.now in
    let mid = state g.S.Store c.read_profile_rows.new.conn in
    let new = state g.S.Store c.carry_all.new.conn in
    let before = λ (clean : HasCleanDisk new).
    let clean_mid : HasCleanDisk mid = omega (arith, c.carry_all.ensures.survives.clean, clean) in clean_mid in
    let older = λ (clean : HasCleanDisk new) (schema : IsOfficeSchema old.now.schema).
    older_marks (tables_of old.now.trees) c.in_ok-older.older c.in_default.not-Second c.in_default.not-Newer
    c.in_default.not-Foreign (c.in_ok-older.ensures.found (before clean) schema) in
    record {
      taken = search rules;
      known = λ clean form known has.
          let schema = form_schema form known _ has in
          let same = (c.in_ok-older.ensures.frame.same (before clean) schema).0.now_is in
          let matched = c.in_ok-carry_all-in_default.ensures.matched form known
          (ap (λ (db : Database). db.schema) same ∙ has) in
          first_of_form form (tables_of old.now.trees) c.in_ok-older.older known matched
          (c.in_ok-older.ensures.found (before clean) schema);
      made = search rules;
      same = λ clean has second.
          absurd (older_or_second (tables_of old.now.trees) (older clean (inr (inr has))) second);
      grown = λ clean has second.
          absurd (older_or_second (tables_of old.now.trees) (older clean (inr (inl has.schema_is))) second);
      carried = search rules;
    }

pub returns-in_ok-carry_all-in_default-clause-survives : goal.returns-in_ok-carry_all-in_default-clause-survives
returns-in_ok-carry_all-in_default-clause-survives g c schema =
    let old = state g.S.Store c.args.conn.now in
    let mid = state g.S.Store c.read_profile_rows.new.conn in
    let new = state g.S.Store c.carry_all.new.conn in
    let before = λ (clean : HasCleanDisk new).
    let clean_mid : HasCleanDisk mid = omega (arith, c.carry_all.ensures.survives.clean, clean) in clean_mid in
    let older = λ (clean : HasCleanDisk new).
    older_marks (tables_of old.now.trees) c.in_ok-older.older c.in_default.not-Second c.in_default.not-Newer
    c.in_default.not-Foreign (c.in_ok-older.ensures.found (before clean) schema) in
    survives_then old mid new (λ _. ⊥) (MayCarry mid.now) (MayMigrate old.now) (λ clean db never. absurd never)
    (λ clean db may. inr (
      older clean,
      subst (λ (d : Database). MayCarry d db) (c.in_ok-older.ensures.frame.same (before clean) schema).0.now_is may,
    )) (c.read_profile_rows.ensures.frame.survives schema) c.carry_all.ensures.survives

pub returns-in_err-carry_all-in_default-clause-survives : goal.returns-in_err-carry_all-in_default-clause-survives
returns-in_err-carry_all-in_default-clause-survives g c schema =
    let old = state g.S.Store c.args.conn.now in
    let mid = state g.S.Store c.read_profile_rows.new.conn in
    let new = state g.S.Store c.carry_all.new.conn in
    let before = λ (clean : HasCleanDisk new).
    let clean_mid : HasCleanDisk mid = omega (arith, c.carry_all.ensures.survives.clean, clean) in clean_mid in
    let older = λ (clean : HasCleanDisk new).
    older_marks (tables_of old.now.trees) c.in_ok-older.older c.in_default.not-Second c.in_default.not-Newer
    c.in_default.not-Foreign (c.in_ok-older.ensures.found (before clean) schema) in
    survives_then old mid new (λ _. ⊥) (MayCarry mid.now) (MayMigrate old.now) (λ clean db never. absurd never)
    (λ clean db may. inr (
      older clean,
      subst (λ (d : Database). MayCarry d db) (c.in_ok-older.ensures.frame.same (before clean) schema).0.now_is may,
    )) (c.read_profile_rows.ensures.frame.survives schema) c.carry_all.ensures.survives

-- ---- of the second: they are completed

pub returns-in-Second-clause-current : goal.returns-in-Second-clause-current
returns-in-Second-clause-current g c =
    let old = state g.S.Store c.args.conn.now in
    let mid = state g.S.Store c.read_profile_rows.new.conn in
    record {
      taken = search rules;
      known = λ clean form known has.
          let clean_mid : HasCleanDisk mid = omega (arith, c.complete.ensures.survives.clean, clean) in
          let schema = form_schema form known _ has in
          let same = (c.in_ok-older.ensures.frame.same clean_mid schema).0.now_is in
          let is_second = rw c.in-Second.is at (c.in_ok-older.ensures.found clean_mid schema) in
          second_of_form form mid.now.schema (tables_of old.now.trees) c.complete.result known
          (ap (λ (db : Database). db.schema) same ∙ has) c.complete.ensures.completed.taken is_second;
      made = search rules;
      same = λ clean has second.
          let clean_mid : HasCleanDisk mid = omega (arith, c.complete.ensures.survives.clean, clean) in
          let unchanged = c.in_ok-older.ensures.frame.same clean_mid (inr (inr has)) in
          on_ok_weaker c.complete.result
          (λ stays. subst (λ v. IsUnchanged old (state g.S.Store v)) (sym stays) unchanged)
          (c.complete.ensures.completed.same
          (subst (λ (d : Database). IsCurrentSchema d.schema) (sym unchanged.0.now_is) has));
      grown = search rules;
      carried = search rules;
    }

pub returns-in-Second-clause-survives : goal.returns-in-Second-clause-survives
returns-in-Second-clause-survives g c schema =
    let old = state g.S.Store c.args.conn.now in
    let mid = state g.S.Store c.read_profile_rows.new.conn in
    let new = state g.S.Store c.complete.new.conn in
    let before = λ (clean : HasCleanDisk new).
    let clean_mid : HasCleanDisk mid = omega (arith, c.complete.ensures.survives.clean, clean) in clean_mid in
    survives_then old mid new (λ _. ⊥) (MayGrow mid.now) (MayMigrate old.now) (λ clean db never. absurd never)
    (λ clean db may. inl (
      rw c.in-Second.is at (c.in_ok-older.ensures.found (before clean) schema),
      subst (λ (d : Database). MayGrow d db) (c.in_ok-older.ensures.frame.same (before clean) schema).0.now_is may,
    )) (c.read_profile_rows.ensures.frame.survives schema) c.complete.ensures.survives
