use Rattle.dbc_sheet.proofs.Common.{◌∙◌, ◌&&◌, not, sym, ap}
use Rattle.dbc_sheet.proofs.Multiplexors.{known_still, known_without}
use Rattle.dbc_sheet.proofs.signals.Signals.remove.Goals as goal

pub invariant_of-self : goal.invariant_of-self
invariant_of-self c =
    known_still c.self.inside.roster c.remove.new.self c.args.name.now c.self.inside.multiplexed c.self.invariant
    (sym c.remove.ensures.found ∙ c.in_err-signal.was) c.remove.ensures.rest

pub invariant_of-self-then-is_multiplexor : goal.invariant_of-self-then-is_multiplexor
invariant_of-self-then-is_multiplexor c =
    known_without c.self.inside.roster c.remove.new.self c.args.name.now c.in_ok-signal.signal c.self.inside.multiplexed
    _ c.self.invariant c.remove.ensures.apart
    (sym c.remove.ensures.found ∙ c.in_ok-signal.was) c.remove.ensures.rest
    (ap (λ b. not b && c.self.inside.multiplexed) (sym c.if-is_multiplexor.true ∙ c.is_multiplexor.ensures))

pub invariant_of-self-else-is_multiplexor : goal.invariant_of-self-else-is_multiplexor
invariant_of-self-else-is_multiplexor c =
    known_without c.self.inside.roster c.remove.new.self c.args.name.now c.in_ok-signal.signal c.self.inside.multiplexed
    _ c.self.invariant c.remove.ensures.apart
    (sym c.remove.ensures.found ∙ c.in_ok-signal.was) c.remove.ensures.rest
    (ap (λ b. not b && c.self.inside.multiplexed) (sym c.if-is_multiplexor.false ∙ c.is_multiplexor.ensures))
