use Rattle.dbc_keep_law.proofs.EachOnce.{each_once}
use Rattle.dbc_keep_law.proofs.Found.{statements_are_found}
use Rattle.dbc_keep_law.proofs.KeptIsKept.{keeps_passed, kept_is_kept, kept_is_one}
use Rattle.dbc_keep_law.proofs.KeptReads.{keeps_sheet}
use Rattle.dbc_keep_law.proofs.NothingKept.{nothing_kept}
use Rattle.dbc_keep_law.proofs.Staying.{keeps_read, statements_stay}
use Rattle.dbc_keep_law.proofs.kept_texts_read_as_their_sheets.Goals as goal

pub returns-clause-sheet : goal.returns-clause-sheet
returns-clause-sheet c = keeps_sheet c.texts_read_as_one_sheet.ensures

pub returns-clause-passed : goal.returns-clause-passed
returns-clause-passed c = keeps_passed

pub returns-clause-again : goal.returns-clause-again
returns-clause-again c = kept_is_kept

pub returns-clause-one : goal.returns-clause-one
returns-clause-one c = kept_is_one c.statements_say_one_sheet.ensures

pub returns-clause-nothing : goal.returns-clause-nothing
returns-clause-nothing c = nothing_kept

pub returns-clause-found : goal.returns-clause-found
returns-clause-found c = statements_are_found

pub returns-clause-stay : goal.returns-clause-stay
returns-clause-stay c = statements_stay

pub returns-clause-read : goal.returns-clause-read
returns-clause-read c = keeps_read

pub returns-clause-once : goal.returns-clause-once
returns-clause-once c = each_once
