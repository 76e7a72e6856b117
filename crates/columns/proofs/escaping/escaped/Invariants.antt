use Rattle.std.proofs.Common.{◌≡◌, take}
use Rattle.std.specs.List.{flat_map}
use Rattle.columns.specs.Word.{shown_byte}
use Rattle.columns.proofs.escaping.escaped.Given as goal

abbrev pub invariant-loop-byte : goal.invariant-loop-byte
invariant-loop-byte l = l.text.items ≡ flat_map (shown_byte l.column) (take l.byte-index l.bytes)
