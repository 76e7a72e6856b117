use Rattle.page_numbers.proofs.Common.{take, flat_map, Becomes, adding, names_of}
use Rattle.page_numbers.specs.Held.{held_row}
use Rattle.page_numbers.proofs.held.put_rows.Given as goal

abbrev pub invariant-loop-ident : goal.invariant-loop-ident
invariant-loop-ident l =
    Becomes l.page
    (adding (flat_map (held_row l.subject.is_j1939 (names_of l.subject) l.blocks l.releases)
    (take l.ident-index l.held)) l.initial.page)
