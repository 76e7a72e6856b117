use Rattle.dbc_advice.proofs.Common.{◌∙◌}
use Rattle.dbc_advice.proofs.NamesFound.{signal_found}
use Rattle.dbc_advice.proofs.names.Names.has_signal.Goals as goal

pub returns : goal.returns
returns c = λ s are. c.has.ensures are.signal_keys are.signals
    ∙ signal_found s.messages c.args.number c.args.name.now are.signal_keys are.keys are.ascending
