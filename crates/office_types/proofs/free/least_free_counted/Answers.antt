use Rattle.std.proofs.Common.{ℕ, ◌+◌, ◌*◌, ◌≤◌, length, add-one, mul-suc, subst, arith}
use Rattle.std.proofs.lemmas.List.{take_all}
use Rattle.office_types.specs.Free.{IsLeastFree, is_free}
use Rattle.office_types.proofs.Least.{free_more, least_once, least_free_is}
use Rattle.office_types.proofs.free.least_free_counted.Goals as goal

-- the turns of one block more
more_turns : (turns more most count : ℕ) → turns ≤ most * count → more ≤ most → turns + more ≤ most * (count + 1)
more_turns turns more most count few least = rw (add-one, mul-suc) (omega arith)

pub loop-block-preserved : goal.loop-block-preserved
loop-block-preserved c =
    let taken = c.args.taken.now in record {
      least = rw c.lesser-least.ensures
          (free_more taken c.args.blocks.now c.args.form c.loop-block.block-index record { first = 0; last = 0 }
          c.loop-block-test.true c.loop-block.least c.least_in-found.result.0 c.loop-block.invariant.least
          c.least_in-found.ensures.least);
      few = more_turns c.loop-block.turns c.least_in-found.result.1 (length taken + 1) c.loop-block.block-index
          c.loop-block.invariant.few c.least_in-found.ensures.turns;
    }

pub returns-clause-computed : goal.returns-clause-computed
returns-clause-computed c =
    let taken = c.args.taken.now in
    let blocks = c.args.blocks.now in
    least_once (is_free taken blocks c.args.form) _ _
    (subst (λ v. IsLeastFree taken v c.args.form c.loop-block.least)
    (take_all c.loop-block.block-index blocks c.loop-block-test.false) c.loop-block.invariant.least)
    (least_free_is taken blocks c.args.form)
