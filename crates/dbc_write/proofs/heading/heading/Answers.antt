use Rattle.dbc_write.proofs.Common.{◌∷◌, []}
use Rattle.dbc_grammar.specs.Canon.{symbols_line, timing_line}
use Rattle.dbc_write.proofs.Adds.{also}
use Rattle.dbc_write.proofs.heading.heading.Goals as goal

pub returns : goal.returns
returns c =
    also (also {ys = symbols_line ∷ timing_line ∷ []} c.in_ok-version_line.ensures
    (record { text = c.in_ok-extend_from_slice.ensures.items })) c.in_ok-nodes_line.ensures
