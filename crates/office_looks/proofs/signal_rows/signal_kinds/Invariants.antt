use Rattle.office_looks.proofs.Common.{◌≡◌, map, take, flat_map}
use Rattle.office_looks.specs.Message.{note_rows, signal_row, type_rows, value_rows}
use Rattle.office_looks.proofs.signal_rows.signal_kinds.Given as goal

abbrev pub invariant-loop-signal : goal.invariant-loop-signal
invariant-loop-signal l = record {
  plain : l.plain ≡ map signal_row (take l.signal-index l.signals);
  types : l.types ≡ flat_map type_rows (take l.signal-index l.signals);
  values : l.values ≡ flat_map value_rows (take l.signal-index l.signals);
  notes : l.notes ≡ flat_map note_rows (take l.signal-index l.signals);
}
