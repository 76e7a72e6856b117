use Rattle.store.proofs.Common.{inl, inr, rules, state, Analyzed, Bodies, Rows}
use Rattle.store_migrate.specs.declared.forms.SchemaForm.TheVariants.{All}
use Rattle.store.specs.Opening.{MayGrow}
use Rattle.store.proofs.TablesInForm.{form_is, rows_not_all}
use Rattle.store.proofs.AfterCrash.{survives_more}
use Rattle.store.proofs.opening.complete.Goals as goal

pub returns-in-All-clause-completed : goal.returns-in-All-clause-completed
returns-in-All-clause-completed g c =
    let schema = (state g.S.Store c.args.conn.now).now.schema in
    let all = form_is schema c.form_of.result All c.in-All.is (λ foreign. cc) c.form_of.ensures.exact in
    record {
      taken = inr (inl all);
      tables = λ clean. inl all;
      none_come = λ clean none. all;
      same = search rules;
      grown = λ clean was.
          let rows = c.form_of.ensures.known Rows (λ foreign. cc) was.schema_is in
          let found = c.in-All.is in
          absurd (cc);
      named = search rules;
      back = search rules;
    }

pub returns-in-Analyzed-clause-completed : goal.returns-in-Analyzed-clause-completed
returns-in-Analyzed-clause-completed g c =
    let schema = (state g.S.Store c.args.conn.now).now.schema in
    let all = form_is schema c.form_of.result Analyzed c.in-Analyzed.is (λ foreign. cc) c.form_of.ensures.exact in
    record {
      taken = inr (inr all);
      tables = λ clean. inr all;
      none_come = λ clean none. absurd (none all);
      same = search rules;
      grown = λ clean was.
          let rows = c.form_of.ensures.known Rows (λ foreign. cc) was.schema_is in
          let found = c.in-Analyzed.is in
          absurd (cc);
      named = search rules;
      back = search rules;
    }

pub returns-in_ok-make_part-in-Rows-clause-completed : goal.returns-in_ok-make_part-in-Rows-clause-completed
returns-in_ok-make_part-in-Rows-clause-completed g c =
    let schema = (state g.S.Store c.args.conn.now).now.schema in
    let rows = form_is schema c.form_of.result Rows c.in-Rows.is (λ foreign. cc) c.form_of.ensures.exact in
    record {
      taken = inl rows;
      tables = λ clean. inl (c.in_ok-make_part-in-Rows.ensures.tables clean rows);
      none_come = λ clean none. c.in_ok-make_part-in-Rows.ensures.tables clean rows;
      same = λ has. absurd (rows_not_all schema c.form_of.result c.in-Rows.is c.form_of.ensures.known has);
      grown = λ clean was. c.in_ok-make_part-in-Rows.ensures.grown clean was;
      named = search rules;
      back = search rules;
    }

pub returns-in_ok-make_part-in-Rows-clause-survives : goal.returns-in_ok-make_part-in-Rows-clause-survives
returns-in_ok-make_part-in-Rows-clause-survives g c =
    let old = state g.S.Store c.args.conn.now in
    let found = c.in-Rows.is in
    survives_more old (state g.S.Store c.make_part.new.conn) _ (MayGrow old.now) (λ db made. record {
      not_first = λ has. let bodies = c.form_of.ensures.known Bodies (λ foreign. cc) has in cc;
      not_all = rows_not_all old.now.schema c.form_of.result c.in-Rows.is c.form_of.ensures.known;
      grown = made;
    }) c.make_part.ensures.survives

pub returns-in_err-make_part-in-Rows-clause-survives : goal.returns-in_err-make_part-in-Rows-clause-survives
returns-in_err-make_part-in-Rows-clause-survives g c =
    let old = state g.S.Store c.args.conn.now in
    let found = c.in-Rows.is in
    survives_more old (state g.S.Store c.make_part.new.conn) _ (MayGrow old.now) (λ db made. record {
      not_first = λ has. let bodies = c.form_of.ensures.known Bodies (λ foreign. cc) has in cc;
      not_all = rows_not_all old.now.schema c.form_of.result c.in-Rows.is c.form_of.ensures.known;
      grown = made;
    }) c.make_part.ensures.survives
