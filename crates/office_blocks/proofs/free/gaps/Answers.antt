use Rattle.office_blocks.proofs.Common.{◌≡◌, ◌+◌, ◌<◌, [], get_or, drop, arith}
use Rattle.std.proofs.lemmas.List.{drop_all}
use Rattle.office_blocks.proofs.Gaps.{gap_step, gaps_done, next_low, next_within, no_more_gaps, same_step}
use Rattle.office_blocks.proofs.free.gaps.Goals.{then-next-number+in_ok-push, else-next-number}
use Rattle.office_blocks.proofs.free.gaps.Goals.{then-next-last+in_ok-push-2, else-next-last}
use Rattle.office_blocks.proofs.free.gaps.Goals as goal

pub overflow_add-next : goal.overflow_add-next
overflow_add-next c =
    let low : get_or c.args.part.now c.loop-number.number-index 0 < c.args.last + 1 =
    next_low c.args.part.now c.loop-number.number-index c.loop-number.next (c.args.last + 1) c.loop-number-test.true
    c.loop-number.invariant.within in
    omega arith

pub loop-number-preserved : goal.loop-number-preserved
loop-number-preserved c =
    let part = c.args.part.now in
    let i = c.loop-number.number-index in
    let next = c.loop-number.next in
    let to = c.args.last + 1 in
    let before = c.loop-number.invariant in
    record {
      within = next_within part i next to c.loop-number-test.true before.within;
      runs = elim c.if-next-number.branch [
        | then-next-number+in_ok-push w ↦
            gap_step _ c.loop-number.runs.items c.if-next-number.runs.items part i next to c.loop-number-test.true
            before.within w.if-next-number.true before.runs (rw w.runs-is w.in_ok-push.ensures.items)
        | else-next-number w ↦
            rw w.runs-is
            (same_step _ c.loop-number.runs.items part i next to c.loop-number-test.true before.within
            w.if-next-number.false before.runs)
      ];
    }

pub returns : goal.returns
returns c =
    let part = c.args.part.now in
    let i = c.loop-number.number-index in
    let next = c.loop-number.next in
    let before = c.loop-number.invariant in
    let none : drop i part ≡ [] = drop_all i part c.loop-number-test.false in
    elim c.if-next-last.branch [
      | then-next-last+in_ok-push-2 w ↦
          rw w.runs-is
          (gaps_done _ c.loop-number.runs.items _ (drop i part) next c.args.last none w.if-next-last.true before.runs
          w.in_ok-push-2.ensures.items)
      | else-next-last w ↦
          rw w.runs-is
          (no_more_gaps _ c.loop-number.runs.items (drop i part) next c.args.last none w.if-next-last.false before.runs)
    ]
