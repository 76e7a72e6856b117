-- What the sections after the comments give for each signal, and whether any signal has a number.
use Rattle.std.specs.Prelude.{Bool, ◌==◌, not, List}
use Rattle.std.specs.List.{list_any}
use Rattle.dbc_grammar.specs.Canon.{Line, spn_lines, type_lines, value_lines}
use Rattle.dbc_sheet.specs.declared.message.Message.{Message}
use Rattle.dbc_sheet.specs.declared.sheet.Sheet.{Sheet}
use Rattle.dbc_sheet.specs.declared.signal.Signal.{Signal}
use Rattle.dbc_write.specs.declared.sections.Section.{Section}
use Rattle.dbc_write.specs.declared.sections.Section.TheVariants.{Spns, Values, ValueTypes}

-- the lines of a signal in a section
abbrev pub section_lines : Section → Message → Signal → List Line
section_lines Spns = spn_lines
section_lines Values = value_lines
section_lines ValueTypes = type_lines

-- a signal of the message has a suspect parameter number
abbrev pub message_has_spn : Message → Bool
message_has_spn m = list_any (λ (s : Signal). not (s.spn == 0)) m.signals

-- a signal of some message has one
abbrev pub has_spn : Sheet → Bool
has_spn s = list_any message_has_spn s.messages
