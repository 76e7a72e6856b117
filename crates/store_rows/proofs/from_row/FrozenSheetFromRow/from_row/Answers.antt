use Rattle.store_rows.proofs.Common.{◌≡◌, ◌∙◌}
use Rattle.store_rows.proofs.from_row.FrozenSheetFromRow.from_row.Goals as goal

pub returns : goal.returns
returns c other shows =
    let sheet : c.in_ok-sheet.sheet ≡ other = c.in_ok-sheet.ensures other shows in
    c.of.ensures ∙ rw (c.take_messages-messages.ensures.rest, c.take_messages-messages.ensures.messages) sheet
