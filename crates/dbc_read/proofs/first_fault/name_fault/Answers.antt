use Rattle.dbc_read.proofs.Common.{◌≡◌, ◌∙◌, List, take, arith, subst, sym, texts_ties, bytes_eq, take_all, text_cmp}
use Rattle.dbc_read.specs.Faults.{AreNamedWithin, IsNameRefused}
use Rattle.dbc_read.proofs.FaultsAt.{fault_at}
use Rattle.dbc_read.proofs.IteratorItems.{item_taken}
use Rattle.dbc_read.proofs.FirstRefused.{none_passed, one_passed, was_there}
use Rattle.dbc_read.proofs.first_fault.name_fault.Goals as goal

pub loop-item-init : goal.loop-item-init
loop-item-init g c = none_passed text_cmp bytes_eq g.T.NamedItem.name_of c.args.limit c.new-before.result
    c.new-before.ensures.empty

pub returns-then-len-limit-clause-fault : goal.returns-then-len-limit-clause-fault
returns-then-len-limit-clause-fault g c =
    let len = c.loop-item.invariant.len in
    let few = c.loop-item.invariant.few in
    fault_at g.T.NamedItem.offset_of (IsNameRefused g.T.NamedItem.name_of c.args.limit) c.args.items.now
    c.loop-item.item-index c.item-item.result _ c.loop-item-test.true c.item-item.is c.name_at-at.ensures
    (c.loop-item.invariant.apart, omega (arith, len, few))

pub returns-then-not-branch-clause-fault : goal.returns-then-not-branch-clause-fault
returns-then-not-branch-clause-fault g c =
    let len = c.loop-item.invariant.len in
    let name : c.in_ok-name.name ≡ g.T.NamedItem.name_of c.item-item.result = c.in_ok-name.ensures ∙ c.name.ensures in
    let there = was_there text_cmp bytes_eq g.T.NamedItem.name_of c.args.limit _ c.loop-item.before
    c.loop-item.invariant c.in_ok-name.name (sym c.if-not-branch.true ∙ c.in_ok-insert.ensures.added) in
    fault_at g.T.NamedItem.offset_of (IsNameRefused g.T.NamedItem.name_of c.args.limit) c.args.items.now
    c.loop-item.item-index c.item-item.result _ c.loop-item-test.true c.item-item.is c.name_at-at.ensures
    (c.loop-item.invariant.apart, omega (arith, len), rw name at there)

pub loop-item-preserved : goal.loop-item-preserved
loop-item-preserved g c =
    let items = c.args.items.now in
    let i = c.loop-item.item-index in
    let len = c.loop-item.invariant.len in
    let item = c.item-item.result in
    let name : c.in_ok-name.name ≡ g.T.NamedItem.name_of item = c.in_ok-name.ensures ∙ c.name.ensures in
    let facts = rw name at c.in_ok-insert.ensures in
    rw (item_taken items i item c.loop-item-test.true c.item-item.is)
    (one_passed text_cmp bytes_eq g.T.NamedItem.name_of c.args.limit (λ a b. sym (texts_ties a b)) (take i items) item
    c.loop-item.before c.insert.new.self c.loop-item.invariant (omega (arith, len))
    (sym c.if-not-branch.false ∙ facts.added) facts.updates (rw c.if-not-branch.false at facts.len))

pub returns-clause-none : goal.returns-clause-none
returns-clause-none g c =
    let all = take_all c.loop-item.item-index c.args.items.now c.loop-item-test.false in
    let passed = c.loop-item.invariant in
    subst (λ (l : List _). AreNamedWithin g.T.NamedItem.name_of c.args.limit l) all
    (record { apart = passed.apart; few = passed.few })
