use Rattle.dbc_sheet.proofs.Common.{◌∙◌, ap, arith, length}
use Rattle.dbc_sheet.proofs.MessageRules.{at_in, not_full, second_refuses}
use Rattle.dbc_sheet.proofs.messages.Messages.index_for.Goals as goal

pub returns-in-Ok-clause-refused : goal.returns-in-Ok-clause-refused
returns-in-Ok-clause-refused c =
    second_refuses c.args.self.now c.args.message.now c.in-Ok.field-0
    (λ full. omega (
      arith,
      full,
      c.if-messages-ge-MESSAGE_LIMIT.false,
      ap length (c.as_slice-messages.ensures ∙ c.self.view_is),
    ))
    (at_in _ _ _ _ c.in-Ok.field-0 (c.as_slice-messages.ensures ∙ c.self.view_is) c.number.ensures
    c.in-Ok.ensures.found)

pub returns-in-Err-clause-room : goal.returns-in-Err-clause-room
returns-in-Err-clause-room c =
    not_full c.args.self.now
    (λ full. omega (
      arith,
      full,
      c.if-messages-ge-MESSAGE_LIMIT.false,
      ap length (c.as_slice-messages.ensures ∙ c.self.view_is),
    ))
