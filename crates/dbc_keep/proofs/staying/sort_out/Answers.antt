use Rattle.dbc_keep.proofs.StayingTexts.{others_more, stay_more}
use Rattle.dbc_keep.proofs.staying.sort_out.Goals as goal

pub loop-one-preserved : goal.loop-one-preserved
loop-one-preserved c =
    let s = c.args.sheet.now in
    let source = c.args.source.now in
    let passed = c.args.passed.now in
    let i = c.loop-one.one-index in
    record {
      stay = stay_more s source passed i _ c.loop-one-test.true _ _ c.in_ok-sort_one.ensures.stay
          c.loop-one.invariant.stay;
      others = others_more s source passed i _ c.loop-one-test.true _ _ c.in_ok-sort_one.ensures.others
          c.loop-one.invariant.others;
    }
