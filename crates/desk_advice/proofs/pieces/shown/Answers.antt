use Rattle.std.proofs.Common.{arith, sym}
use Rattle.std.proofs.lemmas.List.{length-take-le}
use Rattle.desk_advice.proofs.pieces.shown.Goals as goal

pub slice_bounds-all_shown-end : goal.slice_bounds-all_shown-end
slice_bounds-all_shown-end c =
    sym (length-take-le 200 c.args.bytes.now (omega (arith, c.if-bytes-le-SHOWN.false)))
