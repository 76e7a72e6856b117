use Rattle.office_looks.proofs.Common.{◌+◌, get_or, refl}
use Rattle.office_types.specs.declared.reply.PartReply.TheVariants.{Done}
use Rattle.office_looks.specs.Requests.{part_row}
use Rattle.office_looks.proofs.Parts.{one_more}
use Rattle.office_looks.proofs.requests.push_parts.Goals as goal

pub loop-index-preserved : goal.loop-index-preserved
loop-index-preserved c =
    let key = c.args.key.now in
    let parts = c.args.parts.now in
    let i = c.loop-index.index in
    one_more c.args.rows.now key parts i Done c.loop-index.rows c.push_part.new.rows
    (part_row key (i + 1) (get_or parts i Done)) c.loop-index-test.true c.loop-index.invariant refl
    (c.in_ok-push_part.ensures)
