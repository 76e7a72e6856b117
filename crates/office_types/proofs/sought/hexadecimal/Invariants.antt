use Rattle.std.proofs.Common.{◌≡◌, ◌<◌, ◌^◌, drop}
use Rattle.office_types.specs.Sought.{hexadecimal_after}
use Rattle.office_types.proofs.sought.hexadecimal.Given as goal

-- the number so far, followed by the digits that are left, is the whole number
abbrev pub invariant-loop-byte : goal.invariant-loop-byte
invariant-loop-byte l = record {
  small : l.number < 16 ^ l.byte-index;
  value : hexadecimal_after 0 l.bytes ≡ hexadecimal_after l.number (drop l.byte-index l.bytes);
}
