use Rattle.store_changes.proofs.Common.{Option, take, drop, state, HasCleanDisk, Net, HaveOwnBlocks, IsHeadFirst}
use Rattle.store_changes.proofs.Common.{IsOffice, tables_of, IsNetAt, going}
use Rattle.office_types.specs.declared.book.SpnBook.{SpnBook}
use Rattle.store_tables.specs.Frames.{StaysIn}
use Rattle.store_changes.specs.Writing.{IsNext}
use Rattle.store_changes.proofs.OneByOne.{AreBegun}
use Rattle.store_changes.proofs.writing.write_changes.Given as goal

abbrev pub invariant-loop-change : goal.invariant-loop-change
invariant-loop-change g l =
    let old = state g.S.Store l.fn.tx.conn.now in
    let now = state g.S.Store l.tx.conn.now in
    record {
      frame : StaysIn g.S.Store l.fn.tx l.tx going;
      begun : HasCleanDisk now → IsOffice old.now → (net : Option Net) (book : SpnBook)
          → IsNetAt l.name (tables_of old.now.trees) net → IsHeadFirst net l.changes → HaveOwnBlocks l.changes
          → IsNext l.fn.next net l.changes
          → AreBegun l.name (take l.change-index l.changes) (drop l.change-index l.changes)
          (record { net = net; book = book }) l.number (tables_of old.now.trees) (tables_of now.now.trees);
    }
