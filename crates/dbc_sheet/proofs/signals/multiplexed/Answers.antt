use Rattle.dbc_sheet.proofs.Common.{◌∙◌, ◌&&◌, ◌||◌, ◌+◌, [], take, refl, sym, ap}
use Rattle.dbc_sheet.specs.Signals.{IsMultiplexorKnown}
use Rattle.dbc_sheet.proofs.Multiplexors.{known_more, none_known, two_known}
use Rattle.dbc_sheet.proofs.signals.multiplexed.Goals as goal
use Rattle.dbc_sheet.proofs.signals.multiplexed.Goals.{then-is_multiplexor+else-multiplexed, else-is_multiplexor}

pub loop-signal-init : goal.loop-signal-init
loop-signal-init c = record { one = (none_known [] refl).one_multiplexor; known = refl }

pub returns-then-multiplexed : goal.returns-then-multiplexed
returns-then-multiplexed c =
    two_known c.args.signals.now c.loop-signal.signal-index c.signal-item.result c.loop-signal.multiplexed
    c.is_multiplexor.result c.loop-signal-test.true c.signal-item.is
    c.loop-signal.invariant.known c.is_multiplexor.ensures (λ k. c.if-is_multiplexor.true k && c.if-multiplexed.true k)

pub loop-signal-preserved : goal.loop-signal-preserved
loop-signal-preserved c =
    let signals = c.args.signals.now in
    let i = c.loop-signal.signal-index in
    let known : IsMultiplexorKnown (take (i + 1) signals) c.if-is_multiplexor.multiplexed =
    elim c.if-is_multiplexor.branch [
      | then-is_multiplexor+else-multiplexed w ↦ known_more signals i c.signal-item.result c.loop-signal.multiplexed
          c.is_multiplexor.result c.if-is_multiplexor.multiplexed
          c.loop-signal-test.true c.signal-item.is c.loop-signal.invariant.one c.loop-signal.invariant.known
          c.is_multiplexor.ensures
          (λ k. w.if-is_multiplexor.true k && w.if-multiplexed.false k)
          (w.multiplexed-is ∙ sym (ap (λ b. b || c.loop-signal.multiplexed) w.if-is_multiplexor.true))
      | else-is_multiplexor w ↦ known_more signals i c.signal-item.result c.loop-signal.multiplexed
          c.is_multiplexor.result c.if-is_multiplexor.multiplexed
          c.loop-signal-test.true c.signal-item.is c.loop-signal.invariant.one c.loop-signal.invariant.known
          c.is_multiplexor.ensures
          (ap (λ b. b && c.loop-signal.multiplexed) w.if-is_multiplexor.false)
          (w.multiplexed-is ∙ sym (ap (λ b. b || c.loop-signal.multiplexed) w.if-is_multiplexor.false))
    ] in
    record { one = known.one_multiplexor; known = known.known }
