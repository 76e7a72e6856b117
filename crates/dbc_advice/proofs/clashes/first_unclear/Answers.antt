use Rattle.dbc_advice.proofs.Common.{◌≡◌, ◌<◌, ◌∙◌, List, Some, length, get_or, sym, ap, subst, slice_get, Message}
use Rattle.dbc_advice.specs.declared.reasons.ClashReason.{ClashReason}
use Rattle.dbc_advice.proofs.FirstClash.{first_found}
use Rattle.dbc_advice.proofs.clashes.first_unclear.Goals as goal

pub returns-in-Some : goal.returns-in-Some
returns-in-Some c =
    let ms = c.args.sheet.now.messages in
    let m = c.message-item.result in
    let i = c.loop-message.message-index in
    let reasons = c.in_ok-reasons.reasons.items in
    let same = c.messages-message-items.ensures.messages in
    let lt : i < length ms = subst (λ (v : List Message). i < length v) same c.loop-message-test.true in
    let item : m ≡ get_or ms i m = c.message-item.is ∙ ap (λ (v : List Message). get_or v i m) same in
    let first : slice_get reasons 0 ≡ Some c.in-Some.reason.now =
    ap (λ (v : List ClashReason). slice_get v 0) (sym c.deref.ensures.value) ∙ sym c.in-Some.ensures.value in
    first_found c.args.text.now ms i m c.in-Some.reason.now reasons c.in_ok-stated_reason.field-0 lt item
    c.in_ok-reasons.ensures first c.loop-message.invariant c.in_ok-stated_reason.ensures
