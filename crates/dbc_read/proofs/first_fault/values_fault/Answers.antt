use Rattle.dbc_read.proofs.EntryLimits.{one_more}
use Rattle.dbc_read.proofs.IteratorItems.{item_taken}
use Rattle.dbc_read.proofs.Common.{take}
use Rattle.dbc_read.proofs.first_fault.values_fault.Goals as goal

pub loop-entries-preserved : goal.loop-entries-preserved
loop-entries-preserved c =
    let e = c.earlier-first.ensures in
    rw (item_taken c.args.values.now c.loop-entries.entries-index c.entries-item.result c.loop-entries-test.true
    c.entries-item.is)
    (one_more (take c.loop-entries.entries-index c.args.values.now) c.entries-item.result c.loop-entries.first
    c.entries_fault.result c.earlier-first.result c.loop-entries.invariant c.entries_fault.ensures.variant
    c.entries_fault.ensures.code e.one e.none)
