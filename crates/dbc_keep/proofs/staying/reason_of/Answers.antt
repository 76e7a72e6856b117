use Rattle.dbc_keep.proofs.Common.{List, sym, ap, ◌∙◌, Word, reason_by}
use Rattle.dbc_keep.proofs.StayingTexts.{message_stays, reason_there}
use Rattle.dbc_keep.proofs.staying.reason_of.Goals as goal

pub returns-in-Message : goal.returns-in-Message
returns-in-Message c = sym (message_stays c.args.sheet.now c.args.source.now c.args.one c.in-Message.is)

pub returns : goal.returns
returns c =
    let s = c.args.sheet.now in
    let words = rw c.deref.ensures.value at c.reason_by.ensures in
    words ∙ ap (λ (ws : List Word). reason_by s c.args.one.keyword ws) c.in_ok-words.ensures
    ∙ sym (reason_there s c.args.source.now c.args.one)
