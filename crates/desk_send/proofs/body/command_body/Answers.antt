use Rattle.desk_send.proofs.Common.{◌≡◌, ◌∙◌, None, ap, is_some, sym}
use Rattle.desk_send.specs.Body.{task_body}
use Rattle.desk_send.proofs.TextsThere.{texts_there}
use Rattle.desk_send.proofs.body.command_body.Goals as goal

pub returns-in-Ok-clause-texts : goal.returns-in-Ok-clause-texts
returns-in-Ok-clause-texts c =
    let command = c.args.command.now in
    let in_range = c.command_is_in_range.ensures in
    ap is_some (sym c.in-Ok.ensures.body) ∙ texts_there command.net command.task in_range.net in_range.task

pub returns-in-Err-NotUtf8-clause-texts : goal.returns-in-Err-NotUtf8-clause-texts
returns-in-Err-NotUtf8-clause-texts c =
    let command = c.args.command.now in
    let in_range = c.command_is_in_range.ensures in
    let none : task_body command.net command.task ≡ None =
    rw c.in-Err-NotUtf8.field-0-is at c.in-Err-NotUtf8.ensures.body in
    ap is_some (sym none) ∙ texts_there command.net command.task in_range.net in_range.task
