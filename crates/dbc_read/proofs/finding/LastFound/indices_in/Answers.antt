use Rattle.dbc_read.proofs.Common.{List, arith, get_or, subst, sym, Signal}
use Rattle.dbc_read.specs.Orders.{IsOrderOf, signal_names}
use Rattle.dbc_read.proofs.Ordered.{as_many, order_there}
use Rattle.dbc_read.proofs.SignalIndices.{indices_found, name_missing, number_missing, number_within}
use Rattle.dbc_read.proofs.finding.LastFound.indices_in.Goals as goal

pub index-order-requires : goal.index-order-requires
index-order-requires c =
    let finders = c.args.finders.now in
    let within = number_within c.args.number finders.numbers c.args.lines.now c.in-Some.message c.requires.numbers
    c.in-Some.ensures.index in
    let many = as_many c.args.lines.now finders.orders.items c.requires.orders in
    let long = finders.orders.ok.0 in
    omega arith

pub signal_index-requires : goal.signal_index-requires
signal_index-requires c =
    let finders = c.args.finders.now in
    let lines = c.args.lines.now in
    let message = c.in-Some.message in
    let within = number_within c.args.number finders.numbers lines message c.requires.numbers c.in-Some.ensures.index in
    let there = order_there c.index-lines-message.result c.index-order.result.now lines finders.orders.items message
    c.requires.orders within in
    subst (λ (signals : List Signal). IsOrderOf (signal_names signals) c.index-order.result.now)
    (sym c.deref.ensures.value)
    (subst (IsOrderOf (signal_names (get_or lines message c.index-lines-message.result).signals.items))
    (sym c.index-order.ensures) there)

pub returns-in-Some-signal_index : goal.returns-in-Some-signal_index
returns-in-Some-signal_index c =
    indices_found c.args.number c.args.name.now c.args.finders.now.numbers c.args.lines.now c.requires.numbers
    c.in-Some.message c.index-lines-message.result c.deref.result.now
    c.in-Some.ensures.index c.deref.ensures.value c.in-Some-signal_index.signal c.in-Some-signal_index.ensures

pub returns-in-None-signal_index : goal.returns-in-None-signal_index
returns-in-None-signal_index c =
    name_missing c.args.number c.args.name.now c.args.finders.now.numbers c.args.lines.now c.requires.numbers
    c.in-Some.message c.index-lines-message.result c.deref.result.now
    c.in-Some.ensures.index c.deref.ensures.value c.in-Some.ensures.distinct c.in-None-signal_index.ensures

pub returns-in-None : goal.returns-in-None
returns-in-None c = number_missing c.args.number c.args.name.now c.args.finders.now.numbers c.args.lines.now
    c.requires.numbers c.in-None.ensures.index
