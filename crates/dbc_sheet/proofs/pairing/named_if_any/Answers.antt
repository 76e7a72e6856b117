use Rattle.dbc_sheet.proofs.Common.{◌∙◌, sym}
use Rattle.dbc_words.proofs.NamedThings.{find_none}
use Rattle.dbc_sheet.specs.Messages.{message_name}
use Rattle.dbc_sheet.proofs.pairing.named_if_any.Goals as goal

pub returns-else-has_name : goal.returns-else-has_name
returns-else-has_name c =
    sym (find_none message_name c.args.name.now c.args.sheet.now.messages
    (sym c.has_name.ensures ∙ c.if-has_name.false))
