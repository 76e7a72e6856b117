use Rattle.std.proofs.Common.{◌≡◌, ◌+◌, ◌-◌, ◌/◌, ◌<◌, ◌≤◌, get_or, inl, inr, refl, arith}
use Rattle.std.proofs.lemmas.Bool.{cases_lt}
use Rattle.office_types.proofs.FirstGap.{IsFirstGap, all_greater, all_least, gap_is_least, gap_is_past, least_there}
use Rattle.office_types.proofs.halving.least_in.Goals as goal

pub loop-low-preserved-then-numbers-middle : goal.loop-low-preserved-then-numbers-middle
loop-low-preserved-then-numbers-middle c =
    let xs = c.args.numbers.now in
    let first = c.max-from.result in
    let start = c.count_below-start.result in
    let split = c.count_below-start.ensures in
    let low = c.loop-low.low in
    let high = c.loop-low.high in
    let inv = c.loop-low.invariant in
    let t : low < high = c.loop-low-test.true in
    let a = inv.after in
    let d = inv.within in
    let there : first + (low + (high - low) / 2) ≤ get_or xs (low + (high - low) / 2) 0 + start =
    least_there xs c.requires.rising first start split (low + (high - low) / 2) (omega arith) (omega arith) in
    let here : get_or xs (low + (high - low) / 2) 0 + start ≡ first + (low + (high - low) / 2) = let e =
    c.if-numbers-middle.true in omega arith in
    record {
      after = omega arith;
      order = omega arith;
      within = d;
      least = λ j u v. all_least xs c.requires.rising first start split j (low + (high - low) / 2) u (omega arith)
          (omega arith) here;
      greater = inv.greater;
    }

pub loop-low-preserved : goal.loop-low-preserved
loop-low-preserved c =
    let xs = c.args.numbers.now in
    let first = c.max-from.result in
    let start = c.count_below-start.result in
    let split = c.count_below-start.ensures in
    let low = c.loop-low.low in
    let high = c.loop-low.high in
    let inv = c.loop-low.invariant in
    let t : low < high = c.loop-low-test.true in
    let a = inv.after in
    let d = inv.within in
    let there : first + (low + (high - low) / 2) ≤ get_or xs (low + (high - low) / 2) 0 + start =
    least_there xs c.requires.rising first start split (low + (high - low) / 2) (omega arith) (omega arith) in
    let more : first + (low + (high - low) / 2) < get_or xs (low + (high - low) / 2) 0 + start = let e =
    c.if-numbers-middle.false in omega arith in
    record {
      after = a;
      order = omega arith;
      within = omega arith;
      least = inv.least;
      greater = λ j u v. all_greater xs c.requires.rising first start split j (low + (high - low) / 2) u v more;
    }

pub returns-then-number-min : goal.returns-then-number-min
returns-then-number-min c =
    let xs = c.args.numbers.now in
    let first = c.max-from.result in
    let start = c.count_below-start.result in
    let split = c.count_below-start.ensures in
    let low = c.loop-low.low in
    let high = c.loop-low.high in
    let inv = c.loop-low.invariant in
    let t : high ≤ low = c.loop-low-test.false in
    let b = inv.order in
    let d = inv.within in
    let gap : IsFirstGap xs c.requires.rising first start split low =
    record {
      after = inv.after;
      within = omega arith;
      least = inv.least;
      greater =
          λ j u v. inv.greater j (omega arith) v;
    } in
    let e = c.min.ensures in
    let g = c.greatest.ensures in
    gap_is_least xs c.args.block c.args.form c.requires.rising c.args.least c.requires.formed c.requires.above first
    c.max-from.ensures start split low gap (first + (low - start)) refl (omega arith) (omega arith)

pub returns-else-number-min : goal.returns-else-number-min
returns-else-number-min c =
    let xs = c.args.numbers.now in
    let first = c.max-from.result in
    let start = c.count_below-start.result in
    let split = c.count_below-start.ensures in
    let low = c.loop-low.low in
    let high = c.loop-low.high in
    let inv = c.loop-low.invariant in
    let t : high ≤ low = c.loop-low-test.false in
    let b = inv.order in
    let d = inv.within in
    let gap : IsFirstGap xs c.requires.rising first start split low =
    record {
      after = inv.after;
      within = omega arith;
      least = inv.least;
      greater =
          λ j u v. inv.greater j (omega arith) v;
    } in
    let e = c.min.ensures in
    let g = c.greatest.ensures in
    gap_is_past xs c.args.block c.args.form c.requires.rising c.args.least c.requires.formed c.requires.above first
    c.max-from.ensures start split low gap
    (elim (cases_lt c.args.block.last (first + (low - start))) [
      | inl l ↦ inl l
      | inr l ↦ inr (omega arith)
    ])
