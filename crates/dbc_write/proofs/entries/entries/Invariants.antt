use Rattle.dbc_write.proofs.Common.{take, flat_map}
use Rattle.dbc_grammar.specs.Canon.{entry}
use Rattle.dbc_write.specs.Adding.{Adds, piece_text}
use Rattle.dbc_write.proofs.entries.entries.Given as goal

abbrev pub invariant-loop-value : goal.invariant-loop-value
invariant-loop-value l =
    Adds piece_text l.initial.text.items l.text.items (flat_map entry (take l.value-index l.value-items))
