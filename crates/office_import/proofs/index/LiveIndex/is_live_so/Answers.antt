use Rattle.office_import.proofs.Common.{sym, ap, ◌∙◌, list_any, Net}
use Rattle.dbc_sheet.specs.Messages.{number_of}
use Rattle.dbc_sheet.specs.Same.{same_message}
use Rattle.office_types.specs.declared.state.LiveMessage.{LiveMessage}
use Rattle.office_import.proofs.index.LiveIndex.is_live_so.Goals as goal

pub returns : goal.returns
returns c =
    let m = c.args.message.now in
    let test = λ (l : LiveMessage). same_message l.message m in
    c.has_equal.ensures
    ∙ c.of_number.ensures test (λ l same. ap number_of ((c.same_messages_are_equal.ensures l.message m).0 same)
    ∙ sym c.number.ensures)
    ∙ ap (list_any test) (c.self.invariant.0 ∙ ap (λ (n : Net). n.live) c.self.view_is)
