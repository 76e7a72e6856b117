use Rattle.dbc_grammar.proofs.OneReading.{one_reading}
use Rattle.dbc_grammar.proofs.reading_law.texts_read_as_one_sheet.Goals as goal

pub returns : goal.returns
returns c = one_reading c.tokens_are_exact.ensures.one c.divisions_are_single.ensures.one
    c.statements_say_one_sheet.ensures
