use Rattle.std.proofs.Common.{map, take}
use Rattle.markup.specs.Writing.{Becomes, adding}
use Rattle.page_parts.specs.Frames.{heads_html}
use Rattle.page_parts.proofs.frames.put_heads.Given as goal

abbrev pub invariant-loop-head : goal.invariant-loop-head
invariant-loop-head l =
    Becomes l.page (adding (heads_html (map (λ head. head.now) (take l.head-index l.heads))) l.initial.page)
