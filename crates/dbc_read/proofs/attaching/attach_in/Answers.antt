use Rattle.dbc_read.proofs.Common.{◌∙◌, ap, slice_set}
use Rattle.dbc_read.specs.Attaching.{with_attachment}
use Rattle.dbc_read.proofs.SignalIndices.{set_is_change}
use Rattle.dbc_read.proofs.attaching.attach_in.Goals as goal

pub returns : goal.returns
returns c =
    let signals = c.args.signals.now in
    ap (λ s. slice_set signals c.args.at s) c.attach_to.ensures
    ∙ set_is_change (with_attachment c.args.attachment) signals c.args.at c.index-signals-at.result
