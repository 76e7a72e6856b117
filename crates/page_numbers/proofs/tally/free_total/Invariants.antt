use Rattle.page_numbers.proofs.Common.{◌≡◌, ◌≤◌, ◌*◌, ◌^◌, filter, map, sum, take}
use Rattle.page_numbers.specs.Tally.{is_of, free_at}
use Rattle.page_numbers.proofs.tally.free_total.Given as goal

abbrev pub invariant-loop-granted : goal.invariant-loop-granted
invariant-loop-granted l = record {
  counted : l.count ≡ sum (map (free_at l.taken l.form) (filter (is_of l.team l.form)
      (take l.granted-index l.blocks)));
  few : l.count ≤ l.granted-index * 2 ^ 33;
}
