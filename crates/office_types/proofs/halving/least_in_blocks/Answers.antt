use Rattle.std.proofs.Common.{subst}
use Rattle.std.proofs.lemmas.List.{take_all}
use Rattle.office_types.specs.Free.{IsLeastFree, is_free}
use Rattle.office_types.proofs.Least.{free_more, least_free_is, least_once}
use Rattle.office_types.proofs.halving.least_in_blocks.Goals as goal

pub loop-block-preserved : goal.loop-block-preserved
loop-block-preserved c =
    let taken = c.args.numbers.now in
    let blocks = c.args.blocks.now in
    rw c.lesser-lowest.ensures
    (free_more taken blocks c.args.form c.loop-block.block-index record { first = 0; last = 0 } c.loop-block-test.true
    c.loop-block.lowest c.least_in.result c.loop-block.invariant c.least_in.ensures)

pub returns-clause-computed : goal.returns-clause-computed
returns-clause-computed c =
    let taken = c.args.numbers.now in
    let blocks = c.args.blocks.now in
    least_once (is_free taken blocks c.args.form) _ _
    (subst (λ v. IsLeastFree taken v c.args.form c.loop-block.lowest)
    (take_all c.loop-block.block-index blocks c.loop-block-test.false) c.loop-block.invariant)
    (least_free_is taken blocks c.args.form)

pub returns-clause-least : goal.returns-clause-least
returns-clause-least c =
    subst (λ v. IsLeastFree c.args.numbers.now v c.args.form c.loop-block.lowest)
    (take_all c.loop-block.block-index c.args.blocks.now c.loop-block-test.false) c.loop-block.invariant
