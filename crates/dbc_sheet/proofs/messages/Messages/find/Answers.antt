use Rattle.dbc_sheet.proofs.Common.{◌∙◌, ap, sym, subst, Some, IsGap, find_at, find_gap}
use Rattle.dbc_sheet.specs.Messages.{message_at, number_of}
use Rattle.dbc_sheet.proofs.messages.Messages.find.Goals as goal

pub returns-in-Ok : goal.returns-in-Ok
returns-in-Ok c =
    ap Some c.index-messages-at.is
    ∙ sym (find_at number_of c.as_slice-messages.result.now c.args.number c.in-Ok.at c.index-messages-at.result
    c.in-Ok.ensures.found)
    ∙ ap (λ ms. message_at ms c.args.number) (c.as_slice-messages.ensures ∙ c.self.view_is)

pub returns-in-Err : goal.returns-in-Err
returns-in-Err c =
    let same = c.as_slice-messages.ensures ∙ c.self.view_is in
    sym (find_gap number_of c.args.self.now c.args.number c.in-Err.field-0
    (subst (λ ms. IsGap number_of ms c.args.number c.in-Err.field-0) same c.in-Err.ensures.absent))
