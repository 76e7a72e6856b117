use Rattle.dbc_read.proofs.Common.{◌∙◌, ◌&&◌, Bool, List, refl, subst, sym, take, IsDistinct, take_all, is_multiplexor}
use Rattle.dbc_read.specs.Described.{Described}
use Rattle.dbc_read.specs.Faults.{IsMultiplexorRefused}
use Rattle.dbc_read.proofs.FaultsAt.{fault_at}
use Rattle.dbc_read.proofs.IteratorItems.{item_taken}
use Rattle.dbc_read.proofs.Multiplexors.{none_yet, once_more}
use Rattle.dbc_read.proofs.first_fault.multiplexor_fault.Goals as goal
use Rattle.dbc_read.proofs.first_fault.multiplexor_fault.Goals.{then-is_multiplexor+else-has_multiplexor}
use Rattle.dbc_read.proofs.first_fault.multiplexor_fault.Goals.{else-is_multiplexor}

abbrev is_multiplexor_line : Described → Bool
is_multiplexor_line s = is_multiplexor s.signal.mux

pub loop-signal-init : goal.loop-signal-init
loop-signal-init c = none_yet is_multiplexor_line

pub returns-then-has_multiplexor-clause-fault : goal.returns-then-has_multiplexor-clause-fault
returns-then-has_multiplexor-clause-fault c =
    fault_at (λ (s : Described). s.offsets.mux_at) IsMultiplexorRefused c.args.signals.now c.loop-signal.signal-index
    c.signal-item.result _ c.loop-signal-test.true c.signal-item.is c.mux_at.ensures (
      c.loop-signal.invariant.apart,
      sym c.if-is_multiplexor.ensures,
      sym c.loop-signal.invariant.known
          ∙ c.if-has_multiplexor.true,
    )

pub loop-signal-preserved : goal.loop-signal-preserved
loop-signal-preserved c =
    let before = take c.loop-signal.signal-index c.args.signals.now in
    let item = c.signal-item.result in
    rw (item_taken c.args.signals.now c.loop-signal.signal-index item c.loop-signal-test.true c.signal-item.is)
    (elim c.if-is_multiplexor.branch [
      | then-is_multiplexor+else-has_multiplexor
          w ↦ (let is = sym c.is_multiplexor.ensures ∙ w.if-is_multiplexor.true in
          once_more is_multiplexor_line before item c.loop-signal.has_multiplexor _ c.loop-signal.invariant
          (rw (w.has_multiplexor-is, is) refl) (rw (is, w.if-has_multiplexor.false) refl))
      | else-is_multiplexor w ↦ (let is = sym c.is_multiplexor.ensures ∙ w.if-is_multiplexor.false in
          once_more is_multiplexor_line before item c.loop-signal.has_multiplexor _ c.loop-signal.invariant
          (rw (w.has_multiplexor-is, is) refl) (rw is refl))
    ])

pub returns-clause-none : goal.returns-clause-none
returns-clause-none c =
    subst (λ (l : List Described). IsDistinct (λ a b. is_multiplexor_line a && is_multiplexor_line b) l)
    (take_all c.loop-signal.signal-index c.args.signals.now c.loop-signal-test.false) c.loop-signal.invariant.apart
