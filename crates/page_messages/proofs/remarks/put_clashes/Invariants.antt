use Rattle.page_messages.proofs.Common.{map, take, flat_map, Becomes, adding}
use Rattle.page_messages.specs.Remarks.{clash_line}
use Rattle.page_messages.proofs.remarks.put_clashes.Given as goal

abbrev pub invariant-loop-clash : goal.invariant-loop-clash
invariant-loop-clash l =
    Becomes l.page (adding (flat_map clash_line (map (λ clash. clash.items) (take l.clash-index l.clashes))) l.initial.page)
