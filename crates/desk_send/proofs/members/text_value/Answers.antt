use Rattle.desk_send.proofs.Common.{◌∙◌, ap, string, view}
use Rattle.desk_send.proofs.Lists.{a_text, no_text}
use Rattle.desk_send.proofs.members.text_value.Goals as goal

pub returns-in_default : goal.returns-in_default
returns-in_default c = no_text c.args.text.now c.in_default.ensures.cases.0

pub returns : goal.returns
returns c =
    a_text c.args.text.now (view c.in_ok-try_from_str.field-0) c.in-Ok.ensures.cases.1
    (c.in_ok-try_from_str.ensures ∙ ap string c.in-Ok.ensures.cases.0)
