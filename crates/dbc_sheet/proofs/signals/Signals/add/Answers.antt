use Rattle.dbc_sheet.proofs.Common.{◌∙◌, ap, sym, refl, first_refusal}
use Rattle.dbc_sheet.specs.Signals.{signal_tests}
use Rattle.dbc_sheet.proofs.Multiplexors.{known_with}
use Rattle.dbc_sheet.proofs.signals.Signals.add.Goals as goal

pub invariant_of-self-2 : goal.invariant_of-self-2
invariant_of-self-2 c =
    known_with c.self.inside.roster c.push.new.self c.args.signal c.self.inside.multiplexed
    c.is_multiplexor-multiplexor.result _ c.self.invariant
    (ap (λ signals. first_refusal (signal_tests signals c.args.signal)) c.self.view_is ∙ sym c.refusal.ensures
    ∙ c.in-None.is)
    c.in_ok-push.ensures.ok c.is_multiplexor-multiplexor.ensures refl
