use Rattle.store_migrate.proofs.Common.{◌≡◌, ◌∷◌, ◌++◌, [], ◌<◌, ◌+◌, take, length, sym, subst, arith, take_more, state}
use Rattle.store_migrate.proofs.Common.{HasCleanDisk, tables_of}
use Rattle.store_migrate.specs.Carried.{AddsLive}
use Rattle.store_migrate.proofs.LiveAdded.{next_added}
use Rattle.store_rows.proofs.Frames.{ends_and_stays, writes_then}
use Rattle.store_migrate.proofs.carrying.write_messages.Goals as goal

pub loop-message-preserved : goal.loop-message-preserved
loop-message-preserved g c =
    let old = state g.S.Store c.args.tx.now.conn.now in
    let mid = state g.S.Store c.loop-message.tx.conn.now in
    let now = state g.S.Store c.write_message.new.tx.conn.now in
    let name = c.args.name.now in
    let live = c.args.live.now in
    let at = c.loop-message.message-index in
    let item = c.message-item.result in
    let i = c.loop-message.invariant in
    let w = c.in_ok-write_message.ensures in
    let within : at < length live = c.loop-message-test.true in
    let done : take (at + 1) live ≡ take at live ++ item ∷ [] =
    rw (take_more live at item within, ← c.message-item.is) in
    let early : HasCleanDisk now → HasCleanDisk mid = λ clean. omega (arith, w.frame.survives.clean, clean) in
    record {
      frame = writes_then g.S.Store c.args.tx.now c.loop-message.tx c.write_message.new.tx _ i.frame
          (ends_and_stays _ _ _ _ w.frame);
      added = λ clean was.
          subst (λ l. AddsLive name l (tables_of old.now.trees) (tables_of now.now.trees)) (sym done)
          (next_added name item w.live (take at live) (tables_of old.now.trees) (tables_of mid.now.trees)
          (tables_of now.now.trees)
          (w.written clean (i.frame.office (early clean) was)) (i.added (early clean) was));
    }
