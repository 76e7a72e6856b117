use Rattle.page_numbers.proofs.Common.{◌≡◌, ◌≤◌, ◌*◌, ◌^◌, filter, map, sum, take}
use Rattle.page_numbers.specs.Tally.{is_of, live_at}
use Rattle.page_numbers.proofs.tally.live_total.Given as goal

abbrev pub invariant-loop-granted : goal.invariant-loop-granted
invariant-loop-granted l = record {
  counted : l.count ≡ sum (map (live_at l.numbers.live l.form) (filter (is_of l.team l.form)
      (take l.granted-index l.blocks)));
  few : l.count ≤ l.granted-index * 2 ^ 33;
}
