use Rattle.dbc_law.proofs.Law.{grammar_law}
use Rattle.dbc_law.proofs.canonical_texts_read_as_their_sheets.Goals as goal

pub returns : goal.returns
returns c = grammar_law c.texts_read_as_one_sheet.ensures
