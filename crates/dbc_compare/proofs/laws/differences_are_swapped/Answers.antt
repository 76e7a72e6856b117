use Rattle.dbc_compare.proofs.SwappedSheets.{is_swapped}
use Rattle.dbc_compare.proofs.laws.differences_are_swapped.Goals as goal

pub returns : goal.returns
returns c =
    is_swapped c.args.old.now c.args.new.now c.sheets_are_well_formed.ensures c.sheets_are_well_formed-2.ensures
