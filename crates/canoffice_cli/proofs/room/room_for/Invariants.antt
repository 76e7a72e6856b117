use Rattle.canoffice_cli.proofs.Common.{◌≡◌, ◌≤◌, length, take}
use Rattle.canoffice_cli.specs.LongestLines.{room_for}
use Rattle.canoffice_cli.proofs.room.room_for.Given as goal

-- so far it is the room for the arrivals that were looked at
abbrev pub invariant-loop-arrival : goal.invariant-loop-arrival
invariant-loop-arrival l =
    record {
      within : l.arrival-index ≤ length l.arrivals;
      bytes : l.bytes ≡ room_for (take l.arrival-index l.arrivals);
    }
