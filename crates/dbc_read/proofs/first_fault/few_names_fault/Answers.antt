use Rattle.dbc_read.proofs.Common.{◌≡◌, ◌∙◌, true, false, length, take, arith, refl, bytes_eq}
use Rattle.std.specs.List.{IsDistinct}
use Rattle.std.proofs.lemmas.List.{length-take-le}
use Rattle.dbc_read.specs.Faults.{IsNameRefused}
use Rattle.dbc_read.proofs.FaultsAt.{fault_at}
use Rattle.dbc_read.proofs.FirstRefused.{apart_and_last, named_before}
use Rattle.dbc_read.proofs.IteratorItems.{item_taken}
use Rattle.dbc_read.proofs.first_fault.few_names_fault.Goals as goal

pub loop-item-init : goal.loop-item-init
unfolding IsDistinct
loop-item-init g c = record { index = refl; few = omega arith; apart = tt }

pub returns-then-before-limit-clause-fault : goal.returns-then-before-limit-clause-fault
returns-then-before-limit-clause-fault g c =
    let items = c.args.items.now in
    let i = c.loop-item.item-index in
    let index = c.loop-item.invariant.index in
    let few = c.loop-item.invariant.few in
    let taken : length (take i items) ≡ i = length-take-le i items (omega arith) in
    fault_at g.T.NamedItem.offset_of (IsNameRefused g.T.NamedItem.name_of c.args.limit) items i c.item-item.result _
    c.loop-item-test.true c.item-item.is c.name_at-at.ensures
    (c.loop-item.invariant.apart, omega (arith, index, few, taken))

pub returns-then-is_named-clause-fault : goal.returns-then-is_named-clause-fault
returns-then-is_named-clause-fault g c =
    let items = c.args.items.now in
    let i = c.loop-item.item-index in
    let index = c.loop-item.invariant.index in
    let taken : length (take i items) ≡ i = length-take-le i items (omega arith) in
    let name = c.as_bytes.ensures.bytes ∙ c.name.ensures in
    let there = named_before g.T.NamedItem.name_of items c.loop-item.before i c.as_bytes.result.now
    (g.T.NamedItem.name_of c.item-item.result) c.is_named.result true index name c.is_named.ensures
    c.if-is_named.true in
    fault_at g.T.NamedItem.offset_of (IsNameRefused g.T.NamedItem.name_of c.args.limit) items i c.item-item.result _
    c.loop-item-test.true c.item-item.is c.name_at-at.ensures
    (c.loop-item.invariant.apart, omega (arith, index, taken), there)

pub loop-item-preserved : goal.loop-item-preserved
loop-item-preserved g c =
    let items = c.args.items.now in
    let i = c.loop-item.item-index in
    let item = c.item-item.result in
    let name_of = g.T.NamedItem.name_of in
    let index = c.loop-item.invariant.index in
    let name = c.as_bytes.ensures.bytes ∙ c.name.ensures in
    let new = named_before name_of items c.loop-item.before i c.as_bytes.result.now (name_of item) c.is_named.result
    false index name c.is_named.ensures c.if-is_named.false in
    record {
      index = omega (arith, index);
      few = omega arith;
      apart = rw (item_taken items i item c.loop-item-test.true c.item-item.is)
          (apart_and_last (λ a b. bytes_eq (name_of a) (name_of b)) (take i items) item c.loop-item.invariant.apart
          new);
    }
