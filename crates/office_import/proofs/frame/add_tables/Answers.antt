use Rattle.office_import.proofs.Common.{◌++◌, into_iter_items, table_name}
use Rattle.office_import.proofs.Rostered.{memory_alone}
use Rattle.office_import.proofs.frame.add_tables.Goals as goal

pub only_memory-requires : goal.only_memory-requires
only_memory-requires c =
    memory_alone table_name c.loop-table.sheet.tables c.in-Some.table (into_iter_items c.next.new.self)
    (c.args.sheet.now.tables ++ c.args.tables) c.in-Err.fault.code
    (rw c.in-Some.ensures.steps.0 at c.loop-table.invariant.rest) c.requires c.in-Err.ensures.refused
