use Rattle.dbc_read.proofs.Common.{◌∙◌, ◌++◌, ◌∷◌, Global, List, [], ap, append-nil, append_assoc, map, subst, sym}
use Rattle.dbc_read.proofs.Common.{drop_of_length-le, message_of, MessageLine}
use Rattle.dbc_read.specs.Orders.{AreOrdersOf, IsOrderOf, signal_names}
use Rattle.dbc_read.proofs.IteratorItems.{drop_item}
use Rattle.dbc_read.proofs.Ordered.{names_meant}
use Rattle.dbc_read.proofs.orders.orders_of.Goals as goal

pub loop-line-preserved : goal.loop-line-preserved
loop-line-preserved c = λ more are.
    let lines = c.args.lines.now in
    let i = c.loop-line.line-index in
    let line = c.line-item.result in
    let order = c.in-Some.order in
    let orders = c.loop-line.orders.items in
    let ordered : IsOrderOf (signal_names c.deref.result.now) order = rw c.in-Some.is at c.in_ok-order.ensures in
    let names = ap signal_names c.deref.ensures.value ∙ sym (names_meant line.signals.items) in
    let here = subst (λ (l : List MessageLine). AreOrdersOf (map message_of l) (order ∷ more))
    (sym (drop_item lines i line c.loop-line-test.true c.line-item.is))
    (subst (λ ns. IsOrderOf ns order) names ordered, are) in
    subst (AreOrdersOf (map message_of lines))
    (sym (ap (λ l. l ++ more) c.in_ok-push-in-Some.ensures.items ∙ append_assoc orders (order ∷ []) more))
    (c.loop-line.invariant (order ∷ more) here)

pub returns : goal.returns
returns c =
    let none = drop_of_length-le c.args.lines.now c.loop-line-test.false in
    subst (AreOrdersOf (map message_of c.args.lines.now)) (append-nil c.loop-line.orders.items)
    (c.loop-line.invariant []
    (subst (λ (l : List MessageLine). AreOrdersOf {A = Global} (map message_of l) []) (sym none) tt))
