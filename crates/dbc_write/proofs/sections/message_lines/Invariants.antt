use Rattle.dbc_write.proofs.Common.{take, flat_map, line_text}
use Rattle.dbc_write.specs.Adding.{Adds}
use Rattle.dbc_write.specs.Sections.{section_lines}
use Rattle.dbc_write.proofs.sections.message_lines.Given as goal

abbrev pub invariant-loop-signal : goal.invariant-loop-signal
invariant-loop-signal l =
    Adds line_text l.initial.text.items l.text.items
    (flat_map (section_lines l.section l.message) (take l.signal-index l.signal-items))
