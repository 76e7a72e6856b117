use Rattle.store.proofs.Common.{◌≡◌, ◌⊎◌, inl, inr, ap, sym, subst, ◌∙◌, arith, rules, OnOk, on_ok_weaker, Database}
use Rattle.store.proofs.Common.{state, HasCleanDisk, IsUnchanged, IsCurrentSchema, schema_13, IsOfficeWith}
use Rattle.store.specs.Opening.{HasCommitted, IsGrown}
use Rattle.store.proofs.OpenedTables.{apart, apart_13, none_of_office}
use Rattle.store.proofs.opening.make_ready.Goals as goal

pub returns-then-is_new-clause-ready : goal.returns-then-is_new-clause-ready
returns-then-is_new-clause-ready g c =
    let no_table = c.is_new.ensures.0 c.if-is_new.true in
    record {
      taken = search rules;
      tables = λ clean. on_ok_weaker c.start.result (λ made. inl made.0.schema_is) (c.start.ensures.made clean no_table);
      none_come = λ clean none. on_ok_weaker c.start.result (λ made. made.0.schema_is)
          (c.start.ensures.made clean no_table);
      second = λ clean has. absurd (none_of_office _ no_table has);
      made = search rules;
      same = λ clean has. absurd (apart _ no_table has);
      grown = λ clean has. absurd (apart_13 (sym no_table ∙ has.schema_is));
    }

pub returns-then-is_new-clause-survives : goal.returns-then-is_new-clause-survives
returns-then-is_new-clause-survives g c has = absurd (none_of_office _ (c.is_new.ensures.0 c.if-is_new.true) has)

-- tables of the second profile are completed
pub returns-in-Second-clause-ready : goal.returns-in-Second-clause-ready
returns-in-Second-clause-ready g c =
    let old = state g.S.Store c.args.conn.now in
    let mid = state g.S.Store c.read_profile_rows.new.conn in
    let new = state g.S.Store c.complete.new.conn in
    let completed = c.complete.ensures.completed in
    let office = c.is_office.ensures.0 c.if-not-is_office.false in
    let unchanged = λ (clean : HasCleanDisk new).
    let clean_mid : HasCleanDisk mid = omega (arith, c.complete.ensures.survives.clean, clean) in
    c.in_ok-read_profile_rows.ensures.frame.same clean_mid office in
    let same : HasCleanDisk new → mid.now ≡ old.now = λ clean. (unchanged clean).0.now_is in
    let second = λ (clean : HasCleanDisk new).
    let clean_mid : HasCleanDisk mid = omega (arith, c.complete.ensures.survives.clean, clean) in
    rw c.in-Second.is at (c.in_ok-read_profile_rows.ensures.found clean_mid office) in
    record {
      taken = λ clean. on_ok_weaker c.complete.result
          (λ has. inr (subst (λ (d : Database). (d.schema ≡ schema_13) ⊎ IsCurrentSchema d.schema) (same clean) has))
          completed.taken;
      tables = completed.tables;
      none_come = λ clean none. completed.none_come clean
          (λ analyzed. none (sym (ap (λ (d : Database). d.schema) (same clean)) ∙ analyzed));
      second = λ clean has. on_ok_weaker c.complete.result (λ taken. second clean) completed.taken;
      made = λ clean no_table. absurd (none_of_office _ no_table office);
      same = λ clean has. on_ok_weaker c.complete.result
          (λ stays. subst (λ v. IsUnchanged old (state g.S.Store v)) (sym stays) (unchanged clean))
          (completed.same (subst (λ (d : Database). IsCurrentSchema d.schema) (sym (same clean)) has));
      grown = λ clean was.
          subst (λ (d : Database). OnOk c.complete.result (HasCommitted (IsGrown d.trees) new)) (same clean)
          (completed.grown clean (subst (λ (d : Database). IsOfficeWith schema_13 d) (sym (same clean)) was));
    }
