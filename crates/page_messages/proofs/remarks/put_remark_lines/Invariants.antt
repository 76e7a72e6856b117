use Rattle.page_messages.proofs.Common.{map, take, flat_map, Becomes, adding}
use Rattle.page_messages.specs.Remarks.{remark_line}
use Rattle.page_messages.proofs.remarks.put_remark_lines.Given as goal

abbrev pub invariant-loop-remark : goal.invariant-loop-remark
invariant-loop-remark l =
    Becomes l.page (adding (flat_map remark_line (map (λ remark. remark.items) (take l.remark-index l.remarks))) l.initial.page)
