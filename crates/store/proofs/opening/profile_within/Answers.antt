use Rattle.store.proofs.Common.{state}
use Rattle.store.proofs.OtherTables.{asked_keeps}
use Rattle.store.proofs.opening.profile_within.Goals as goal

pub returns : goal.returns
returns g c = record {
  same_reference = c.query_all.ensures.same_reference;
  kept = λ inside clean. asked_keeps (λ rows. rows.items) _ _ (state g.S.Store c.args.tx.now.conn.now)
      (state g.S.Store c.query_all.new.self.conn.now) c.query_all.result inside (c.query_all.ensures.ok clean)
      (c.query_all.ensures.err clean);
  survives = c.query_all.ensures.survives;
}
