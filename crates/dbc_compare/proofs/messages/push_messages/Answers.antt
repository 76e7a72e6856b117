use Rattle.dbc_compare.proofs.Common.{◌≡◌, ◌+◌, ◌++◌, ◌∙◌, List, ◌∷◌, suc, drop, sym, ap, flat_map, partner, Message}
use Rattle.std.proofs.Common.{add-one, drop-cons}
use Rattle.dbc_compare.specs.Differences.{below, by_numbers, gone_message, message_differences, shown_message}
use Rattle.dbc_compare.specs.declared.difference.Difference.{Difference}
use Rattle.dbc_compare.proofs.MessageWalk.{one_passed}
use Rattle.dbc_compare.proofs.messages.push_messages.Goals as goal

pub loop-message-preserved : goal.loop-message-preserved
loop-message-preserved c =
    let old = c.args.old.now.messages in
    let new = c.args.new.now.messages in
    let gone : Message → List Difference = λ m. gone_message (partner new old m) m in
    let shown : Message → List Difference = λ m. shown_message (partner old new m) m in
    let items = c.messages-message-items.result.now in
    let i = c.loop-message.message-index in
    let m = c.message-item.result in
    let rest = c.loop-message.rest.now in
    let before = c.loop-message.found.items in
    let middle = c.push_gone.new.found.items in
    let here : drop i items ≡ m ∷ drop (i + 1) items =
    drop-cons items i m c.loop-message-test.true
    ∙ ap (λ v. v ∷ drop (suc i) items) (sym c.message-item.is)
    ∙ ap (λ k. m ∷ drop k items) (sym (add-one i)) in
    one_passed gone shown rest (drop (i + 1) items) m c.below-count.result
    (c.args.found.now.items ++ message_differences old new) before middle c.push_shown.new.found.items
    (c.below-count.ensures.count ∙ ap (λ k. below k rest) c.number.ensures)
    (c.loop-message.invariant ∙ ap (λ v. before ++ by_numbers gone shown rest v) here)
    (c.in_ok-push_gone.ensures ∙ ap (λ v. before ++ flat_map gone v) c.split_at.ensures.front)
    (c.in_ok-push_shown.ensures ∙ ap (λ o. middle ++ shown_message o m) c.partner.ensures)
    ∙ ap (λ v. c.push_shown.new.found.items ++ by_numbers gone shown v (drop (i + 1) items))
    (sym c.split_at.ensures.back)
