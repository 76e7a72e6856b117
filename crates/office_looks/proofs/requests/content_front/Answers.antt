use Rattle.office_looks.proofs.Common.{◌≤◌, length, take, sym, ap, ◌∙◌, arith}
use Rattle.std.proofs.lemmas.List.{length-take-le, take_all}
use Rattle.office_looks.proofs.requests.content_front.Goals as goal

pub slice_bounds-result-end : goal.slice_bounds-result-end
slice_bounds-result-end c =
    let more : 512 ≤ length c.first_line-line.result.now = omega (arith, c.if-line-le-SHOWN_LIMIT.false) in
    sym (length-take-le 512 c.first_line-line.result.now more)

pub returns-then-line-le-SHOWN_LIMIT : goal.returns-then-line-le-SHOWN_LIMIT
returns-then-line-le-SHOWN_LIMIT c =
    sym (take_all 512 c.first_line-line.result.now c.if-line-le-SHOWN_LIMIT.true)
    ∙ ap (take 512) c.first_line-line.ensures
