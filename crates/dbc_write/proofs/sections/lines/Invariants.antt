use Rattle.dbc_write.proofs.Common.{take, flat_map, line_text, Message}
use Rattle.dbc_write.specs.Adding.{Adds}
use Rattle.dbc_write.specs.Sections.{section_lines}
use Rattle.dbc_write.proofs.sections.lines.Given as goal

abbrev pub invariant-loop-message : goal.invariant-loop-message
invariant-loop-message l =
    Adds line_text l.initial.text.items l.text.items
    (flat_map (λ (m : Message). flat_map (section_lines l.section m) m.signals) (take l.message-index l.message-items))
