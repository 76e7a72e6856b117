use Rattle.page_messages.proofs.Common.{arith, length, sym, ◌<◌, length-take-le, take_all}
use Rattle.page_messages.proofs.remarks.shown_of.Goals as goal

pub slice_bounds-result-end : goal.slice_bounds-result-end
slice_bounds-result-end c =
    let more : 200 < length c.args.remarks.now = c.if-remarks-gt-SHOWN_REMARKS.true in
    sym (length-take-le 200 c.args.remarks.now (omega arith))

pub returns-else-remarks-gt-SHOWN_REMARKS : goal.returns-else-remarks-gt-SHOWN_REMARKS
returns-else-remarks-gt-SHOWN_REMARKS c = sym (take_all 200 c.args.remarks.now c.if-remarks-gt-SHOWN_REMARKS.false)
