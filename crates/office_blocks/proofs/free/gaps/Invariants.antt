use Rattle.office_blocks.proofs.Common.{◌≡◌, ◌+◌, ◌-◌, ◌++◌, drop, runs_of}
use Rattle.office_blocks.specs.Numbers.{AreWithin, left_numbers}
use Rattle.office_blocks.proofs.free.gaps.Given as goal

-- the runs up to the next number, and those of the numbers that are left
abbrev pub invariant-loop-number : goal.invariant-loop-number
invariant-loop-number l = record {
  within : AreWithin l.next (l.last + 1) (drop l.number-index l.part);
  runs : runs_of 1 (left_numbers l.part l.first (l.last + 1 - l.first))
      ≡ l.runs.items ++ runs_of 1 (left_numbers (drop l.number-index l.part) l.next (l.last + 1 - l.next));
}
