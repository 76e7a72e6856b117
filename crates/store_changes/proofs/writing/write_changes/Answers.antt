use Rattle.store_changes.proofs.Common.{◌≡◌, ◌∷◌, ◌++◌, [], ◌<◌, ◌+◌, take, drop, length, sym, subst, arith, take_more}
use Rattle.store_changes.proofs.Common.{state, HasCleanDisk, NetAndBook, all_applied, IsOffice, tables_of, AreWritten}
use Rattle.store_changes.proofs.Common.{first_alone}
use Rattle.std.proofs.Common.{add-one, drop-cons, take_all}
use Rattle.store_rows.proofs.Changes.{changes_follow}
use Rattle.store_changes.proofs.OneByOne.{AreBegun, next_alone, one_more, own_parts}
use Rattle.store_rows.proofs.Frames.{stays_then}
use Rattle.store_changes.proofs.writing.write_changes.Goals as goal

pub loop-change-preserved : goal.loop-change-preserved
loop-change-preserved g c =
    let old = state g.S.Store c.args.tx.now.conn.now in
    let mid = state g.S.Store c.loop-change.tx.conn.now in
    let now = state g.S.Store c.write_change.new.tx.conn.now in
    let name = c.args.name.now in
    let changes = c.args.changes.now in
    let at = c.loop-change.change-index in
    let item = c.change-item.result in
    let i = c.loop-change.invariant in
    let w = c.in_ok-write_change.ensures in
    let within : at < length changes = c.loop-change-test.true in
    let next : drop at changes ≡ item ∷ drop (at + 1) changes =
    rw (add-one, drop-cons changes at item within, ← c.change-item.is) in
    let done : take (at + 1) changes ≡ take at changes ++ item ∷ [] =
    rw (take_more changes at item within, ← c.change-item.is) in
    let early : HasCleanDisk now → HasCleanDisk mid = λ clean. omega (arith, w.frame.survives.clean, clean) in
    let net_office : HasCleanDisk now → IsOffice old.now → IsOffice mid.now =
    λ clean was. i.frame.office (early clean) was in
    record {
      frame = stays_then g.S.Store c.args.tx.now c.loop-change.tx c.write_change.new.tx _ i.frame w.frame;
      begun = λ clean was there book at_first first own number_is.
          let e : NetAndBook = record { net = there; book = book } in
          let begun = i.begun (early clean) was there book at_first first own number_is in
          let before = subst (λ l. AreBegun name (take at changes) l e c.loop-change.number (tables_of old.now.trees)
          (tables_of mid.now.trees)) next begun in
          let net = (all_applied name (take at changes) e).net in
          let alone = first_alone item net (drop (at + 1) changes) before.head_first in
          let own_one = (own_parts item (drop (at + 1) changes) before.own).0 in
          let written = w.written clean (net_office clean was) net before.at alone own_one
          (next_alone c.loop-change.number net item (drop (at + 1) changes) before.next) in
          subst (λ l. AreBegun name l (drop (at + 1) changes) e c.in_ok-number.number (tables_of old.now.trees)
          (tables_of now.now.trees)) (sym done)
          (one_more name (take at changes) item (drop (at + 1) changes) e c.loop-change.number c.in_ok-number.number
          (tables_of old.now.trees) (tables_of mid.now.trees) (tables_of now.now.trees)
          before written (c.in_ok-number.ensures name net (drop (at + 1) changes) alone before.next));
    }

pub returns-clause-written : goal.returns-clause-written
returns-clause-written g c clean office there book at_first first own number_is =
    let old = state g.S.Store c.args.tx.now.conn.now in
    let now = state g.S.Store c.loop-change.tx.conn.now in
    let name = c.args.name.now in
    let changes = c.args.changes.now in
    let e : NetAndBook = record { net = there; book = book } in
    let all : take c.loop-change.change-index changes ≡ changes =
    take_all c.loop-change.change-index changes c.loop-change-test.false in
    let begun = c.loop-change.invariant.begun clean office there book at_first first own number_is in
    changes_follow name changes e (tables_of old.now.trees) (tables_of now.now.trees) first
    (subst (λ l. AreWritten name l e (tables_of old.now.trees) (tables_of now.now.trees)) all begun.written)
