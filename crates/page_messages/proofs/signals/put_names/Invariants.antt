use Rattle.page_messages.proofs.Common.{◌++◌, codes, take, flat_map, escaped, Becomes, adding}
use Rattle.page_messages.proofs.signals.put_names.Given as goal

abbrev pub invariant-loop-name : goal.invariant-loop-name
invariant-loop-name l =
    Becomes l.page (adding (flat_map (λ name. codes ", " ++ escaped name) (take l.name-index l.later)) l.initial.page)
