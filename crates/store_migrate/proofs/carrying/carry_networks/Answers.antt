use Rattle.store_migrate.proofs.Common.{◌≡◌, ◌∷◌, ◌++◌, [], ◌<◌, ◌+◌, take, length, sym, subst, arith, take_more, state}
use Rattle.store_migrate.proofs.Common.{HasCleanDisk, tables_of}
use Rattle.store_migrate.specs.Carried.{CarriesNets}
use Rattle.store_migrate.proofs.NetsCarried.{next_carried}
use Rattle.store_rows.proofs.Frames.{stays_then}
use Rattle.store_migrate.proofs.carrying.carry_networks.Goals as goal

pub loop-name-preserved : goal.loop-name-preserved
loop-name-preserved g c =
    let old = state g.S.Store c.args.tx.now.conn.now in
    let mid = state g.S.Store c.loop-name.tx.conn.now in
    let now = state g.S.Store c.carry_network.new.tx.conn.now in
    let names = c.args.names.now in
    let at = c.loop-name.name-index in
    let item = c.name-item.result in
    let i = c.loop-name.invariant in
    let w = c.in_ok-carry_network.ensures in
    let within : at < length names = c.loop-name-test.true in
    let done : take (at + 1) names ≡ take at names ++ item ∷ [] =
    rw (take_more names at item within, ← c.name-item.is) in
    let early : HasCleanDisk now → HasCleanDisk mid = λ clean. omega (arith, w.frame.survives.clean, clean) in
    record {
      frame = stays_then g.S.Store c.args.tx.now c.loop-name.tx c.carry_network.new.tx _ i.frame w.frame;
      carried = λ clean was.
          subst (λ l. CarriesNets l (tables_of old.now.trees) (tables_of now.now.trees)) (sym done)
          (next_carried (take at names) item (tables_of old.now.trees) (tables_of mid.now.trees)
          (tables_of now.now.trees)
          (i.carried (early clean) was) (w.carried clean (i.frame.office (early clean) was)));
    }
