use Rattle.page_numbers.proofs.Common.{◌≡◌, ◌-◌, ◌++◌, ℕ, arith, subst, flat_map, range_with_len, HaveSame}
use Rattle.page_numbers.specs.Rows.{own_row}
use Rattle.page_numbers.proofs.SameRows.{same_number}
use Rattle.page_numbers.proofs.charts.add_numbers.Goals as goal

pub loop-number-preserved : goal.loop-number-preserved
loop-number-preserved c = record {
  same = same_number (own_row c.args.chart) c.args.first c.loop-number.number c.args.rows.now.items
      c.loop-number.rows.items c.add_own.new.rows.items (omega arith) c.loop-number.invariant.same
      c.in_ok-add_own.ensures;
  within = omega (arith, c.loop-number.invariant.within);
}

pub returns : goal.returns
returns c =
    let all : c.loop-number.number - c.args.first ≡ c.args.end - c.args.first =
    omega (arith, c.loop-number.invariant.within) in
    subst (λ (k : ℕ). HaveSame c.loop-number.rows.items
    (c.args.rows.now.items ++ flat_map (own_row c.args.chart) (range_with_len c.args.first k))) all
    c.loop-number.invariant.same
