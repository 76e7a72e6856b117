use Rattle.dbc_read.proofs.Common.{◌∙◌, nat_cmp, nat_eq, refl, take, arith, subst, sym, take_all, message_limit}
use Rattle.dbc_read.proofs.Common.{MessageLine}
use Rattle.std.specs.Cmp.{unsigned_ties}
use Rattle.dbc_read.specs.Faults.{AreNumbered, IsNumberRefused, line_number}
use Rattle.dbc_read.proofs.FaultsAt.{fault_at}
use Rattle.dbc_read.proofs.IteratorItems.{item_taken}
use Rattle.dbc_read.proofs.FirstRefused.{none_passed, one_passed, was_there}
use Rattle.dbc_read.proofs.first_fault.number_fault.Goals as goal

pub loop-message-init : goal.loop-message-init
loop-message-init c = none_passed nat_cmp nat_eq line_number message_limit c.new-before.result
    c.new-before.ensures.empty

pub returns-then-len-ge-MESSAGE_LIMIT-clause-fault : goal.returns-then-len-ge-MESSAGE_LIMIT-clause-fault
returns-then-len-ge-MESSAGE_LIMIT-clause-fault c =
    let len = c.loop-message.invariant.len in
    let few = c.loop-message.invariant.few in
    fault_at (λ (m : MessageLine). m.at) IsNumberRefused c.args.messages.now c.loop-message.message-index
    c.message-item.result _ c.loop-message-test.true c.message-item.is refl
    (c.loop-message.invariant.apart, omega (arith, len, few))

pub returns-then-not-branch-clause-fault : goal.returns-then-not-branch-clause-fault
returns-then-not-branch-clause-fault c =
    let len = c.loop-message.invariant.len in
    let there = was_there nat_cmp nat_eq line_number message_limit _ c.loop-message.before c.loop-message.invariant
    c.to_dbc.result (sym c.if-not-branch.true ∙ c.in_ok-insert.ensures.added) in
    fault_at (λ (m : MessageLine). m.at) IsNumberRefused c.args.messages.now c.loop-message.message-index
    c.message-item.result _ c.loop-message-test.true c.message-item.is refl
    (c.loop-message.invariant.apart, omega (arith, len), rw c.to_dbc.ensures.number at there)

pub loop-message-preserved : goal.loop-message-preserved
loop-message-preserved c =
    let messages = c.args.messages.now in
    let i = c.loop-message.message-index in
    let len = c.loop-message.invariant.len in
    let item = c.message-item.result in
    let facts = rw c.to_dbc.ensures.number at c.in_ok-insert.ensures in
    rw (item_taken messages i item c.loop-message-test.true c.message-item.is)
    (one_passed nat_cmp nat_eq line_number message_limit (λ a b. sym (unsigned_ties a b)) (take i messages) item
    c.loop-message.before c.insert.new.self c.loop-message.invariant (omega (arith, len))
    (sym c.if-not-branch.false ∙ facts.added) facts.updates (rw c.if-not-branch.false at facts.len))

pub returns-clause-none : goal.returns-clause-none
returns-clause-none c =
    let passed = c.loop-message.invariant in
    subst AreNumbered (take_all c.loop-message.message-index c.args.messages.now c.loop-message-test.false)
    (record { apart = passed.apart; few = passed.few })
