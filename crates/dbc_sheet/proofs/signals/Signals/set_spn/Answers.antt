use Rattle.dbc_sheet.proofs.Common.{rules, refl}
use Rattle.dbc_sheet.specs.declared.signal.Signal.{Signal}
use Rattle.dbc_sheet.proofs.Multiplexors.{known_changed}
use Rattle.dbc_sheet.proofs.signals.Signals.set_spn.Goals as goal

pub invariant_of-self : goal.invariant_of-self
invariant_of-self c =
    let change : Signal → Signal = λ s. record s { spn = c.args.spn } in
    known_changed change c.args.name.now c.self.inside.roster c.change.new.self c.self.inside.multiplexed
    c.self.invariant (λ s. refl)
    (c.change.ensures.changed change (λ x y k. search rules))
