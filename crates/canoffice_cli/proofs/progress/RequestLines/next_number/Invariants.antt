use Rattle.canoffice_cli.proofs.Common.{◌≡◌, ◌+◌, ◌≤◌, ◌<◌, length}
use Rattle.std.proofs.Common.{◌^◌}
use Rattle.canoffice_cli.specs.Numbers.{numbers_left}
use Rattle.canoffice_cli.proofs.progress.RequestLines.next_number.Given as goal

-- the numbers that are left were left at first
abbrev pub invariant-loop-first : goal.invariant-loop-first
invariant-loop-first l = record {
  room : l.self.number + length l.self.rest.now ≤ l.fn.self.number + length l.fn.self.rest.now;
  same : l.fn.self.number + length l.fn.self.rest.now < 2 ^ 64 → numbers_left l.fn.self ≡ numbers_left l.self;
}

abbrev pub decreases-loop-first : goal.decreases-loop-first
decreases-loop-first l = length l.self.rest.now
