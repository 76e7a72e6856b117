use Rattle.dbc_grammar.proofs.OneSheet.{one_sheet}
use Rattle.dbc_grammar.proofs.saying_law.statements_say_one_sheet.Goals as goal

pub returns : goal.returns
returns c = one_sheet
