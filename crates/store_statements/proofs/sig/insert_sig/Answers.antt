use Rattle.std.proofs.Common.{ap, rules}
use Rattle.sqlite.specs.Held.{state}
use Rattle.store_tables.proofs.Keeping.{execute_keeps}
use Rattle.store_statements.proofs.SigTexts.{insert_text, inserts}
use Rattle.store_statements.proofs.Texts.{edits}
use Rattle.store_statements.proofs.sig.insert_sig.Goals as goal

pub returns : goal.returns
returns g c =
    let both = edits g.S.Store c.args.tx.now c.execute.new.self c.execute.result _ _ _ _ (inserts c.args.row.now)
    c.execute.ensures.ended (rw (
      c.to_sql.ensures,
      c.to_sql-2.ensures,
      c.to_sql-3.ensures,
      c.to_sql-4.ensures,
      c.to_sql-5.ensures,
      c.to_sql-6.ensures,
      c.value.ensures,
      c.to_sql-7.ensures,
      c.to_sql-8.ensures,
    )
    at c.execute.ensures.runs) in
    record {
      added = both.0;
      rows = both.1;
      frame = record {
        same_reference = search rules;
        kept = λ clean. execute_keeps insert_text _ (state g.S.Store c.args.tx.now.conn.now)
            (state g.S.Store c.execute.new.self.conn.now) c.execute.result
            (λ no. ap (state g.S.Store) (c.execute.ensures.ended no).1) (c.execute.ensures.runs clean);
        survives = search rules;
      };
    }
