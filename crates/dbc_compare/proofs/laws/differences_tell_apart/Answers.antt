use Rattle.dbc_compare.proofs.ToldSheets.{tells_apart}
use Rattle.dbc_compare.proofs.laws.differences_tell_apart.Goals as goal

pub returns : goal.returns
returns c =
    tells_apart c.args.old.now c.args.new.now c.sheets_are_well_formed.ensures c.sheets_are_well_formed-2.ensures
