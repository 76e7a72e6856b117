use Rattle.dbc_lint.proofs.Common.{List, subst, take}
use Rattle.dbc_lint.specs.OfSpn.{SpnPlace, places}
use Rattle.dbc_lint.specs.SpnPlaces.{HasFirsts}
use Rattle.dbc_lint.proofs.FirstSpns.{messages_more}
use Rattle.dbc_lint.proofs.spn_places.FirstPlaces.of.Goals as goal

pub loop-message-preserved : goal.loop-message-preserved
loop-message-preserved c =
    let messages = c.args.messages.now in
    let i = c.loop-message.message-index in
    subst (λ (qs : List SpnPlace). HasFirsts qs c.add_message.new.self)
    (messages_more messages i c.message-item.result c.loop-message-test.true c.message-item.is)
    (c.in_ok-add_message.ensures (places (take i messages)) c.loop-message.invariant)
